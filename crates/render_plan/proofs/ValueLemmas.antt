-- The values of targets, one after the other.
use Rattle.std.proofs.Common.{◌≡◌, ℕ, zero, suc, ◌+◌, ◌-◌, ◌*◌, ◌≤◌, ◌<◌, List, [], ◌∷◌, ◌++◌, All, drop, get_or, length, Option, None, Result, Ok, Err, refl, sym, ap, subst, ◌∙◌, append_assoc, arith}
use Rattle.std.proofs.lemmas.List.{append-nil, drop-drop, drop_all, length-append}
use Rattle.std.proofs.Math.Seq.{drop-cons}
use Rattle.std.proofs.lemmas.List.Elements.{All-append, All-cons, All-head, All-nil, All-tail, All-weaker}
use Rattle.series_set.specs.Series.{SeriesValue, end_of, latest_end}
use Rattle.series_set.specs.declared.grid.EvalFault.{EvalFault}
use Rattle.target_parse.specs.Bytes.{most_depth}
use Rattle.time_range.specs.SpanOf.{latest}
use Rattle.render_plan.specs.declared.settings.Format.{Format}
use Rattle.render_plan.specs.declared.settings.Format.TheVariants.{Csv}
use Rattle.render_plan.specs.declared.target.Target.{Target}
use Rattle.render_plan.specs.Sound.{AreSound}
use Rattle.render_plan.specs.Bounds.{AreLimited, AreMadeOf, AreRows, IsEarly, IsMade, end_within, greatest_end, latest_csv_end, latest_row_end}
use Rattle.render_plan.specs.Terms.{Term, Terms, NoTerms, WithTerm, all_terms, term_of, terms_of}
use Rattle.render_plan.specs.Values.{Answers, HasValue, HaveValues, Rows, concat, most_of, nth, path_count, path_counts, set_before, thinned_all}
use Rattle.render_plan.specs.Planned.{Plan}
use Rattle.render_plan.proofs.MadeLemmas.{early_more}

-- ---- lists of lists

pub concat_push : (sets : Rows) (set : List SeriesValue) → concat (sets ++ set ∷ []) ≡ concat sets ++ set
concat_push [] set = append-nil set
concat_push (first ∷ sets) set = ap (λ (l : List SeriesValue). first ++ l) (concat_push sets set) ∙ sym (append_assoc first (concat sets) set)

all_dropped : (P : SeriesValue → Type 0) (n : ℕ) (rows : Rows) → All P (concat rows) → All P (concat (drop n rows))
all_dropped P zero rows all = all
all_dropped P (suc n) [] all = all
all_dropped P (suc n) (row ∷ rows) all = all_dropped P n rows (behind row (concat rows) all)
  where
    behind : (set others : List SeriesValue) → All P (set ++ others) → All P others
    behind [] others all = all
    behind (s ∷ set) others all = behind set others (All-tail P s (set ++ others) all)

-- ---- some targets, and then the others

-- the values so far, and then those of the others
abbrev pub sets_before : Rows → Result Rows EvalFault → Result Rows EvalFault
sets_before sets (Ok others) = Ok (sets ++ others)
sets_before sets (Err fault) = Err fault

-- Targets of which some have their values, over rows of which some are left.
pub record Reached (whole : Terms) (rows : Rows) (by : ℕ) (ahead : Terms) (left sets : Rows) : Type 0 where
  pub values : (result : Result Rows EvalFault) → HaveValues ahead left result → HaveValues whole rows (sets_before sets result)
  pub made : AreMadeOf rows left by (concat sets)
  pub behind : drop (path_counts ahead) left ≡ drop (path_counts whole) rows
  pub good : AreRows left

nothing_before : (result : Result Rows EvalFault) → sets_before [] result ≡ result
nothing_before (Ok others) = refl
nothing_before (Err fault) = refl

pub reached_start : (whole : Terms) (rows : Rows) (by : ℕ) → AreRows rows → Reached whole rows by whole rows []
reached_start whole rows by good = record {
  values = λ result have. subst (λ (r : Result Rows EvalFault). HaveValues whole rows r) (sym (nothing_before result)) have;
  made = record { few = omega arith; early = All-nil (IsEarly by) };
  behind = refl;
  good = good;
}

one_more : (sets : Rows) (set : List SeriesValue) (result : Result Rows EvalFault) → sets_before sets (set_before set result) ≡ sets_before (sets ++ set ∷ []) result
one_more sets set (Ok others) = ap (λ (l : Rows). Ok l) (sym (append_assoc sets (set ∷ []) others))
one_more sets set (Err fault) = refl

next_made : (rows left after sets : Rows) (by : ℕ) (set : List SeriesValue) → AreMadeOf rows left by (concat sets) → AreMadeOf left after by set → AreMadeOf rows after by (concat (sets ++ set ∷ []))
next_made rows left after sets by set made more =
    let long = length-append (concat sets) set in
    let pushed = ap length (concat_push sets set) in
    record {
      few = omega (arith, long, pushed, made.few, more.few);
      early = subst (λ (l : List SeriesValue). All (IsEarly by) l) (sym (concat_push sets set)) (All-append (IsEarly by) (concat sets) set made.early more.early);
    }

good_after : (n : ℕ) (left : Rows) (by : ℕ) (set : List SeriesValue) → AreRows left → AreMadeOf left (drop n left) by set → AreRows (drop n left)
good_after n left by set good made = record { few = omega (arith, good.few, made.few); early = all_dropped (IsEarly latest_row_end) n left good.early }

reached_next : (whole : Terms) (rows : Rows) (by : ℕ) (term : Term) (ahead : Terms) (left after sets : Rows) (set : List SeriesValue)
    → Reached whole rows by (WithTerm term ahead) left sets → HasValue term left (Ok set) → after ≡ drop (path_count term) left → AreMadeOf left after by set
    → Reached whole rows by ahead after (sets ++ set ∷ [])
reached_next whole rows by term ahead left after sets set reached has is made =
    subst (λ (rest : Rows). Reached whole rows by ahead rest (sets ++ set ∷ [])) (sym is) (record {
      values = λ result have. subst (λ (r : Result Rows EvalFault). HaveValues whole rows r) (one_more sets set result)
          (reached.values (set_before set result) (Ok set, has, (result, have, refl)));
      made = next_made rows left (drop (path_count term) left) sets by set reached.made there;
      behind = drop-drop (path_counts ahead) (path_count term) left ∙ reached.behind;
      good = good_after (path_count term) left by set reached.good there;
    })
  where
    there : AreMadeOf left (drop (path_count term) left) by set
    there = subst (λ (rest : Rows). AreMadeOf left rest by set) is made

reached_stop : (whole : Terms) (rows : Rows) (by : ℕ) (term : Term) (ahead : Terms) (left sets : Rows) (fault : EvalFault)
    → Reached whole rows by (WithTerm term ahead) left sets → HasValue term left (Err fault) → HaveValues whole rows (Err fault)
reached_stop whole rows by term ahead left sets fault reached has = reached.values (Err fault) (Err fault, has, refl)

reached_values : (whole : Terms) (rows : Rows) (by : ℕ) (left sets : Rows) → Reached whole rows by NoTerms left sets → HaveValues whole rows (Ok sets)
reached_values whole rows by left sets reached = subst (λ (l : Rows). HaveValues whole rows (Ok l)) (append-nil sets) (reached.values (Ok []) refl)

-- ---- the target at a place of a list

ahead_at : (targets : List Target) (index : ℕ) (target : Target) → index < length targets → target ≡ get_or targets index target
    → terms_of (drop index targets) ≡ WithTerm (term_of target) (terms_of (drop (index + 1) targets))
ahead_at targets index target within is =
    let more : suc index ≡ index + 1 = omega arith in
    ap (λ (l : List Target). terms_of l) (drop-cons targets index target within)
    ∙ ap (λ (first : Target). WithTerm (term_of first) (terms_of (drop (suc index) targets))) (sym is)
    ∙ ap (λ (n : ℕ). WithTerm (term_of target) (terms_of (drop n targets))) more

pub loop_sound : (targets : List Target) (levels index : ℕ) (target : Target) → index < length targets → target ≡ get_or targets index target
    → AreSound levels (terms_of (drop index targets)) → AreSound levels (terms_of (drop (index + 1) targets))
loop_sound targets levels index target within is sound =
    let both : AreSound levels (WithTerm (term_of target) (terms_of (drop (index + 1) targets))) = subst (λ (ahead : Terms). AreSound levels ahead) (ahead_at targets index target within is) sound in
    both.1

pub loop_next : (targets : List Target) (rows : Rows) (by index : ℕ) (target : Target) (left after sets : Rows) (set : List SeriesValue) → index < length targets → target ≡ get_or targets index target
    → Reached (terms_of targets) rows by (terms_of (drop index targets)) left sets → HasValue (term_of target) left (Ok set) → after ≡ drop (path_count (term_of target)) left → AreMadeOf left after by set
    → Reached (terms_of targets) rows by (terms_of (drop (index + 1) targets)) after (sets ++ set ∷ [])
loop_next targets rows by index target left after sets set within is reached has behind made =
    reached_next (terms_of targets) rows by (term_of target) (terms_of (drop (index + 1) targets)) left after sets set
    (subst (λ (ahead : Terms). Reached (terms_of targets) rows by ahead left sets) (ahead_at targets index target within is) reached) has behind made

pub loop_stop : (targets : List Target) (rows : Rows) (by index : ℕ) (target : Target) (left sets : Rows) (fault : EvalFault) → index < length targets → target ≡ get_or targets index target
    → Reached (terms_of targets) rows by (terms_of (drop index targets)) left sets → HasValue (term_of target) left (Err fault) → HaveValues (terms_of targets) rows (Err fault)
loop_stop targets rows by index target left sets fault within is reached has =
    reached_stop (terms_of targets) rows by (term_of target) (terms_of (drop (index + 1) targets)) left sets fault
    (subst (λ (ahead : Terms). Reached (terms_of targets) rows by ahead left sets) (ahead_at targets index target within is) reached) has

pub loop_end : (targets : List Target) (rows : Rows) (by index : ℕ) (left sets : Rows) → Reached (terms_of targets) rows by (terms_of (drop index targets)) left sets → length targets ≤ index
    → HaveValues (terms_of targets) rows (Ok sets)
loop_end targets rows by index left sets reached end =
    reached_values (terms_of targets) rows by left sets
    (subst (λ (l : List Target). Reached (terms_of targets) rows by (terms_of l) left sets) (drop_all index targets end) reached)

-- ---- a path

path_made : (rows : Rows) (levels : ℕ) → AreRows rows → AreMadeOf rows (drop 1 rows) (end_within levels) (nth rows 0)
unfolding end_within
path_made [] levels good = record { few = omega arith; early = All-nil (IsEarly (end_within levels)) }
path_made (row ∷ rows) levels good =
    let long = length-append row (concat rows) in
    record {
      few = omega (arith, long);
      early = early_more latest_row_end (end_within levels) row (omega arith) (front row (concat rows) good.early);
    }
  where
    front : (set others : List SeriesValue) → All (IsEarly latest_row_end) (set ++ others) → All (IsEarly latest_row_end) set
    front [] others all = All-nil (IsEarly latest_row_end)
    front (s ∷ set) others all = All-cons (IsEarly latest_row_end) s set (All-head (IsEarly latest_row_end) s (set ++ others) all) (front set others (All-tail (IsEarly latest_row_end) s (set ++ others) all))

pub path_gives : (rows left : Rows) (set : List SeriesValue) (levels : ℕ) → AreRows rows → left ≡ drop 1 rows → set ≡ nth rows 0 → AreMadeOf rows left (end_within levels) set
path_gives rows left set levels good behind first =
    subst (λ (l : Rows). AreMadeOf rows l (end_within levels) set) (sym behind)
    (subst (λ (s : List SeriesValue). AreMadeOf rows (drop 1 rows) (end_within levels) s) (sym first) (path_made rows levels good))

-- ---- a call

pub call_limited : (rows left sets : Rows) (inner levels : ℕ) → levels ≤ most_depth → AreRows rows → AreMadeOf rows left (end_within inner) (concat sets) → inner ≡ levels - 1 → AreLimited (concat sets)
unfolding end_within greatest_end
call_limited rows left sets inner levels deep good made is = record {
  few = omega (arith, good.few, made.few);
  early = early_more (end_within inner) greatest_end (concat sets) (omega (arith, deep, is)) made.early;
}

pub call_made : (rows left sets : Rows) (inner levels : ℕ) (set : List SeriesValue) → AreMadeOf rows left (end_within inner) (concat sets) → IsMade (concat sets) set → inner ≡ levels - 1 → 1 ≤ levels
    → AreMadeOf rows left (end_within levels) set
unfolding end_within
call_made rows left sets inner levels set made of is some = record {
  few = omega (arith, made.few, of.few);
  early = early_more (end_within inner + latest) (end_within levels) set (omega (arith, some, is)) (of.soon (end_within inner) made.early);
}

-- ---- an answer

pub answer_good : (plan : Plan) (rows sets : Rows) (all answer : List SeriesValue) (most : Option ℕ) → HaveValues (all_terms plan.targets) rows (Ok sets)
    → all ≡ concat sets → most ≡ most_of plan.format plan.points → answer ≡ thinned_all most all → Answers plan rows (Ok answer)
answer_good plan rows sets all answer most have joined some is =
    let whole : answer ≡ thinned_all (most_of plan.format plan.points) (concat sets) = is ∙ ap (λ (n : Option ℕ). thinned_all n all) some ∙ ap (λ (l : List SeriesValue). thinned_all (most_of plan.format plan.points) l) joined in
    (Ok sets, have, ap (λ (l : List SeriesValue). Ok l) whole)

pub answer_stop : (plan : Plan) (rows : Rows) (fault : EvalFault) → HaveValues (all_terms plan.targets) rows (Err fault) → Answers plan rows (Err fault)
answer_stop plan rows fault have = (Err fault, have, refl)

pub thinnable : (rows left : Rows) (set : List SeriesValue) → AreMadeOf rows left (end_within most_depth) set → All (λ s. 2 * end_of s ≤ latest_end) set
unfolding end_within
thinnable rows left set made = All-weaker (IsEarly (end_within most_depth)) (λ s. 2 * end_of s ≤ latest_end) (λ s e. omega (arith, e.early)) set made.early

-- an answer as comma-separated values has the series as they were made
pub answer_dated : (format : Format) (points most : Option ℕ) (rows left sets : Rows) (all answer : List SeriesValue) → AreMadeOf rows left (end_within most_depth) (concat sets)
    → all ≡ concat sets → most ≡ most_of format points → answer ≡ thinned_all most all → format ≡ Csv → All (λ s. end_of s ≤ latest_csv_end) answer
unfolding end_within
answer_dated format points most rows left sets all answer made joined some is csv =
    let none : most ≡ None = some ∙ ap (λ (f : Format). most_of f points) csv in
    let whole : answer ≡ concat sets = is ∙ ap (λ (n : Option ℕ). thinned_all n all) none ∙ joined in
    let early = All-weaker (IsEarly (end_within most_depth)) (λ s. end_of s ≤ latest_csv_end) (λ s e. omega (arith, e.early)) (concat sets) made.early in
    subst (λ (set : List SeriesValue). All (λ s. end_of s ≤ latest_csv_end) set) (sym whole) early
