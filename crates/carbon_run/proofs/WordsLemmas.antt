-- Runs whose words say nothing.
use Rattle.std.proofs.Common.{◌≡◌, ◌⊎◌, inl, inr, List, [], Option, None, Some, refl}
use Rattle.std.specs.Prelude.{IfSome}
use Rattle.outside_io.specs.declared.disk.Disk.{Ghosts}
use Rattle.carbon_words.specs.declared.command.Command.{Command}
use Rattle.carbon_words.specs.declared.reading.WordsFault.{WordsFault}
use Rattle.carbon_words.specs.declared.reading.WordsFault.TheVariants as words
use Rattle.carbon_run.specs.Commands.{Beside, Outcome}
use Rattle.carbon_run.specs.Runs.{Answer, NoCommand, NoWords, Streams, TellsWords}

pub no_words : {D : Type 0} (fault : WordsFault) (streams : Streams) (given : List D) (answer : Answer D)
    → TellsWords fault answer.status streams.written streams.written' → answer.history ≡ [] → answer.disks ≡ given → streams.left' ≡ streams.left
    → NoCommand streams given answer ⊎ NoWords streams given answer
no_words words.Usage streams given answer tells history disks input = inl (record { tells = tells; history = history; disks = disks; input = input })
no_words words.NoMemory streams given answer tells history disks input = inr (record { tells = tells; history = history; disks = disks; input = input })

pub no_outcome : {D E L : Type 0} (d : Ghosts D) (b : Beside E L) (fault : WordsFault) (said : Option Command) (folder folder' : D) (streams : Streams) (given : List D) (answer : Answer D)
    → (fault ≡ words.Usage → said ≡ None) → b.net' ≡ b.net
    → TellsWords fault answer.status streams.written streams.written' → answer.history ≡ [] → answer.disks ≡ given → streams.left' ≡ streams.left
    → IfSome said (λ command. Outcome d b command folder folder' streams given answer)
no_outcome d b fault None folder folder' streams given answer usage net tells history disks input = tt
no_outcome d b words.Usage (Some command) folder folder' streams given answer usage net tells history disks input = absurd (cc (usage refl))
no_outcome d b words.NoMemory (Some command) folder folder' streams given answer usage net tells history disks input =
    inl (net, record { tells = tells; history = history; disks = disks; input = input })
