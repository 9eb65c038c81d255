-- The end of a link, behind what its rules have open.
use Rattle.std.proofs.Common.{◌≡◌, ◌≢◌, inl, inr, ℕ, List, Option, refl, sym, ◌∙◌, subst}
use Rattle.outside_io.specs.Frames.{CountsReads}
use Rattle.outside_io.specs.declared.source.Source.{Ghosts}
use Rattle.line_service.specs.declared.ends.ServiceEnd.TheVariants as end
use Rattle.line_service.specs.declared.ends.Stop.{Stop}
use Rattle.line_service.specs.declared.ends.Stop.TheVariants as stop
use Rattle.metric_line.specs.Point.{Point}
use Rattle.carbon_model.specs.State.{State}
use Rattle.shared_history.specs.Parts.{PassValue}
use Rattle.line_front.specs.Emits.{ClosesAs, EndsLines, LinesEndAs, PutsFew}
use Rattle.line_front.specs.Links.{Ends, EndsAs, SessionValue, Timed, timed}
use Rattle.line_front.specs.Points.{PutsEach, emitted_at_end}
use Rattle.line_front.specs.Ends.{IsLinkEnd, cause_of}
use Rattle.line_front.specs.declared.ends.LineCause.{LineCause}
use Rattle.line_front.specs.declared.ends.LineCause.TheVariants as cause
use Rattle.line_front.proofs.EmitLemmas.{idles_few}

-- ---- ends that are not clean

not_read : cause.ReadFault ≢ cause.Closed
not_read same = absurd (cc same)

not_limit : cause.LinkLimit ≢ cause.Closed
not_limit same = absurd (cc same)

not_full : cause.Spent ≢ cause.Closed
not_full same = absurd (cc same)

not_short : cause.NoMemory ≢ cause.Closed
not_short same = absurd (cc same)

-- ---- the end

module _ (moments : ℕ → Type 0) (start : State) (passes : ℕ) where
  -- a session as it is left, of which the pass went on
  abbrev left_as : SessionValue → PassValue → SessionValue
  left_as session pass = record session { pass = pass }

  -- what is open of a link that was read to its end is put, or the first of it
  closes : (reason : LineCause) (taken : List ℕ) (left : Option (List ℕ)) (old : Timed) (told : List ℕ) (mid : SessionValue) (pass : PassValue)
      → LinesEndAs moments start passes cause.Closed taken left old (timed told mid) → ClosesAs start passes reason (emitted_at_end mid.gathered) mid.pass pass
      → EndsAs moments start passes reason taken left old (timed told (left_as mid pass))
  closes cause.Closed taken left old told mid pass read puts = record { mid = mid; read = read; emits = puts; counts = refl }
  closes cause.ReadFault taken left old told mid pass read puts = absurd puts
  closes cause.LinkLimit taken left old told mid pass read puts = absurd puts
  closes cause.Spent taken left old told mid pass read few = (
    inr (inr (record {
      mid = mid;
      read = read;
      emits = record {
        first = few.first;
        others = few.others;
        split = few.split;
        emits = subst (λ (p : PassValue). PutsEach start passes few.first mid.pass p) (sym few.stops.0) few.emits;
        counts = refl;
      };
      some = few.some refl;
    })),
    few.stops.1,
  )
  closes cause.NoMemory taken left old told mid pass read few = inr (inr (record {
    mid = mid;
    read = read;
    put = left_as mid few.mid;
    emits = record { first = few.first; others = few.others; split = few.split; emits = few.emits; counts = refl };
    idles = idles_few start passes mid (left_as mid pass) refl few.mid few.stops;
  }))

  -- each other end is that of the lines
  stays : (read : LineCause) (taken : List ℕ) (left : Option (List ℕ)) (old mid : Timed) → read ≢ cause.Closed → LinesEndAs moments start passes read taken left old mid
      → EndsAs moments start passes read taken left old mid
  stays cause.Closed taken left old mid other ends = absurd (other refl)
  stays cause.ReadFault taken left old mid other ends = ends
  stays cause.LinkLimit taken left old mid other ends = ends
  stays cause.Spent taken left old mid other (inl none, spent) = (inl none, spent)
  stays cause.Spent taken left old mid other (inr full, spent) = (inr (inl full), spent)
  stays cause.NoMemory taken left old mid other (inl front) = inl front
  stays cause.NoMemory taken left old mid other (inr short) = inr (inl short)

  module _ (left left' : Option (List ℕ)) (old : Timed) (told : List ℕ) (mid : SessionValue) where
    not_spent : cause.Closed ≢ cause.Spent
    not_spent same = absurd (cc same)

    ends_closed : (reason : LineCause) (pass : PassValue) → EndsLines moments start passes cause.Closed left left' old (timed told mid)
        → ClosesAs start passes reason (emitted_at_end mid.gathered) mid.pass pass → Ends moments start passes reason left left' old told pass mid.counts
    ends_closed reason pass lines puts = record {
      taken = lines.taken;
      consumed = lines.consumed;
      room = λ other. lines.room not_spent;
      gathered = mid.gathered;
      ends = closes reason lines.taken left' old told mid pass lines.ends puts;
    }

    ends_other : (read : LineCause) → read ≢ cause.Closed → EndsLines moments start passes read left left' old (timed told mid)
        → Ends moments start passes read left left' old told mid.pass mid.counts
    ends_other read other lines = record {
      taken = lines.taken;
      consumed = lines.consumed;
      room = lines.room;
      gathered = mid.gathered;
      ends = stays read lines.taken left' old (timed told mid) other lines.ends;
    }

    ends_moved : (read reason : LineCause) (pass : PassValue) → read ≢ cause.Closed → EndsLines moments start passes read left left' old (timed told mid) → (reason ≡ read) × (pass ≡ mid.pass)
        → Ends moments start passes reason left left' old told pass mid.counts
    ends_moved read reason pass other lines same =
        subst (λ (r : LineCause). Ends moments start passes r left left' old told pass mid.counts) (sym same.0)
        (subst (λ (p : PassValue). Ends moments start passes read left left' old told p mid.counts) (sym same.1) (ends_other read other lines))

    -- what the service of a link came to
    pub ends_link : (read reason : LineCause) (pass : PassValue) → EndsLines moments start passes read left left' old (timed told mid)
        → (read ≡ cause.Closed → ClosesAs start passes reason (emitted_at_end mid.gathered) mid.pass pass) → (read ≢ cause.Closed → (reason ≡ read) × (pass ≡ mid.pass))
        → Ends moments start passes reason left left' old told pass mid.counts
    ends_link cause.Closed reason pass lines closed other = ends_closed reason pass lines (closed refl)
    ends_link cause.ReadFault reason pass lines closed other = ends_moved cause.ReadFault reason pass not_read lines (other not_read)
    ends_link cause.LinkLimit reason pass lines closed other = ends_moved cause.LinkLimit reason pass not_limit lines (other not_limit)
    ends_link cause.Spent reason pass lines closed other = ends_moved cause.Spent reason pass not_full lines (other not_full)
    ends_link cause.NoMemory reason pass lines closed other = ends_moved cause.NoMemory reason pass not_short lines (other not_short)

-- ---- how the last puts end

module _ (start : State) (passes : ℕ) (points : List Point) (old new : PassValue) where
  pub few_ends : (reason : Stop) → PutsFew start passes points reason old new → IsLinkEnd (end.Stopped reason)
  few_ends stop.WriteFault few = absurd few.stops
  few_ends (stop.DiskFault class) few = absurd few.stops
  few_ends stop.Spent few = tt
  few_ends stop.NoMemory few = tt

  pub closes_few : (reason : Stop) (told : LineCause) → told ≡ cause_of (end.Stopped reason) → PutsFew start passes points reason old new → ClosesAs start passes told points old new
  closes_few stop.WriteFault told same few = absurd few.stops
  closes_few (stop.DiskFault class) told same few = absurd few.stops
  closes_few stop.Spent told same few = subst (λ (r : LineCause). ClosesAs start passes r points old new) (sym same) few
  closes_few stop.NoMemory told same few = subst (λ (r : LineCause). ClosesAs start passes r points old new) (sym same) few

  -- only a failed read is told as one
  read_failed : (read reason : LineCause) → (read ≡ cause.Closed → ClosesAs start passes reason points old new) → (read ≢ cause.Closed → (reason ≡ read) × (new ≡ old))
      → reason ≡ cause.ReadFault → read ≡ cause.ReadFault
  read_failed cause.Closed reason closed other failed = absurd (subst (λ (r : LineCause). ClosesAs start passes r points old new) failed (closed refl))
  read_failed cause.ReadFault reason closed other failed = refl
  read_failed cause.LinkLimit reason closed other failed = sym (other not_limit).0 ∙ failed
  read_failed cause.Spent reason closed other failed = sym (other not_full).0 ∙ failed
  read_failed cause.NoMemory reason closed other failed = sym (other not_short).0 ∙ failed

  pub reads_link : {S : Type 0} (ghosts : Ghosts S) (from to : S) (read reason : LineCause) → (read ≡ cause.Closed → ClosesAs start passes reason points old new)
      → (read ≢ cause.Closed → (reason ≡ read) × (new ≡ old)) → CountsReads ghosts from to (read ≡ cause.ReadFault) → CountsReads ghosts from to (reason ≡ cause.ReadFault)
  reads_link ghosts from to read reason closed other counts =
      record { later = counts.later; cause = λ failed. counts.cause (read_failed read reason closed other failed) }
