-- What a run of `sample` comes to.
use Rattle.std.specs.Prelude.{◌≡◌, ◌⊎◌, ℕ, Bool, List, Option, Some, None}
use Rattle.outside_io.specs.declared.disk.Disk.{Ghosts}
use Rattle.carbon_model.specs.RingFiles.{Settings}
use Rattle.carbon_words.specs.declared.command.SampleOptions.{SampleOptions}
use Rattle.sample_text.specs.Sample.{question_text, sample_front}
use Rattle.carbon_run.specs.Runs.{Answer, NoStart, Scripted, Streams}

-- The streams of its script: the text of the sample stands for the input. All of it before the question, which is its last line and its only one, is the
-- front, so that what is written is what the script says from the question on.
abbrev pub sample_streams : SampleOptions → Option (List ℕ) → Streams → Streams
sample_streams said rest streams = record {
  front = Some (sample_front said.start said.count);
  left = Some question_text;
  left' = rest;
  written = streams.written;
  written' = streams.written';
}

-- The script of the sample ran, and the input is as it was.
pub record Sampled {D : Type 0} (d : Ghosts D) (settings : Settings) (redo : Bool) (said : SampleOptions) (streams : Streams) (given : List D) (answer : Answer D) : Type 0 where
  pub input : streams.left' ≡ streams.left
  pub rest : Option (List ℕ)
  pub runs : Scripted d settings redo (sample_streams said rest streams) given answer

-- A shard does not start, or the script of the sample runs.
abbrev pub SampleRuns : {D : Type 0} → Ghosts D → Settings → Bool → SampleOptions → Streams → List D → Answer D → Type 0
SampleRuns d settings redo said streams given answer = NoStart d streams given answer ⊎ Sampled d settings redo said streams given answer

-- the streams of what leaves its input alone
abbrev pub untouched : Option (List ℕ) → Option (List ℕ) → Option (List ℕ) → Streams
untouched left before after = record { front = None; left = left; left' = left; written = before; written' = after }
