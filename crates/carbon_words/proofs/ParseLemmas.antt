-- What a parse of the words comes to.
use Rattle.std.proofs.Common.{◌≡◌, List, [], ◌∷◌, Option, Some, None, ap, ap₂, inl, inr, refl, sym, true}
use Rattle.std.specs.Prelude.{◌≢◌, IfErr, IfOk, Ok, Err, Result, option_map}
use Rattle.clap.specs.Words.{FailsBy, HasMatchesOf, Kinds, Row, Text, fault_of, is_simple, is_simple_and_free, kind_of, subcommand_of, subcommand_rows_of}
use Rattle.clap.specs.declared.ArgMatches.{ArgMatches}
use Rattle.clap.specs.declared.Error.{Error}
use Rattle.clap.specs.declared.error.ErrorKind.TheVariants.{OutOfMemory}
use Rattle.carbon_words.specs.CommandLine.{FindsWords, carbon, command_app, command_met, command_of, sample_app, serve_app, unless_refused}

-- `clap` tells exactly which words it refuses, and what it finds in the others
pub simple_and_free : is_simple_and_free carbon ≡ true
unfolding carbon command_app sample_app serve_app
simple_and_free = refl

pub simple : is_simple carbon ≡ true
unfolding carbon command_app sample_app serve_app
simple = refl

pub found : (words : List Text) (r : Result ArgMatches Error) → FailsBy (fault_of carbon words) r → IfOk r (HasMatchesOf carbon words)
    → IfOk r (FindsWords words)
found words (Ok m) none has = record { none = none; met = (has simple).1 }
found words (Err e) none has = _

pub refused : (words : List Text) (r : Result ArgMatches Error) → FailsBy (fault_of carbon words) r
    → IfErr r (λ e. kind_of e ≢ OutOfMemory → fault_of carbon words ≢ [])
refused words (Ok m) fails = _
refused words (Err e) fails = λ other none. go (fault_of carbon words) none other fails
  where
    go : (kinds : Kinds) → kinds ≡ [] → kind_of e ≢ OutOfMemory → FailsBy {T = ArgMatches} kinds (Err e) → ⊥
    go [] none other (inl memory) = other memory
    go [] none other (inr among) = among
    go (k ∷ kinds) none other fails = cc

-- words that are refused are no command
none_found : {X : Type 0} (kinds : Kinds) (o : Option X) → kinds ≢ [] → unless_refused kinds o ≡ None
none_found [] o some = absurd (some refl)
none_found (k ∷ kinds) o some = refl

pub no_command : (words : List Text) → fault_of carbon words ≢ [] → command_of words ≡ None
unfolding command_of
no_command words some = ap command_met (none_found (fault_of carbon words) (subcommand_of carbon words) some)

-- the command of words that are not refused
pub command_found : (words : List Text) (m : ArgMatches) → FindsWords words m → command_of words ≡ command_met (subcommand_rows_of m)
unfolding command_of
command_found words m finds =
    ap₂ (λ kinds o. command_met (unless_refused kinds o)) finds.none (sym finds.met)

-- name and rows of a subcommand, from each alone
pub both_parts : {X : Type 0} (f : X → Text) (g : X → List Row) (o : Option X) (name : Text) (rows : List Row)
    → Some name ≡ option_map f o → Some rows ≡ option_map (λ (p : Text × List Row). p.1) (option_map (λ x. (f x, g x)) o)
    → ◌≡◌ {A = Option (Text × List Row)} (Some (name, rows)) (option_map (λ x. (f x, g x)) o)
both_parts f g None name rows a b = cc
both_parts f g (Some x) name rows a b = cc
