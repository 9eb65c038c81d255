-- A path is read in one way: the reading is that of the relation.
use Rattle.std.proofs.Common.{◌≡◌, ◌+◌, ◌-◌, ◌≤◌, ℕ, Bool, true, false, nat_lt, if◌then◌else◌, List, [], ◌∷◌, ◌++◌, length, take, drop, Option, Some, None, option_and_then, refl, sym, ap, subst, ◌∙◌, arith}
use Rattle.std.proofs.lemmas.Bool.{le-ltb, lt-ltb, ltb-true, ltb-false, eqb-true, not-false}
use Rattle.std.proofs.lemmas.List.{append-nil, append_assoc, drop-drop, drop_at, length-append, take-append-drop, take_at}
use Rattle.std.proofs.lemmas.Slice.Eq.{bytes_eq-Decides}
use Rattle.std.specs.Str.{bytes_eq}
use Rattle.aggregate_rules.specs.declared.node.Gap.{Gap}
use Rattle.aggregate_rules.specs.declared.node.Gap.TheVariants.{Closed, Any, Named}
use Rattle.aggregate_rules.specs.declared.node.PatternNode.{PatternNode}
use Rattle.aggregate_rules.specs.RuleTexts.{is_named}
use Rattle.aggregate_rules.specs.Readings.{Covers, Fills, Reads, IsReadInOneWay, covered, fills, reading, with_row}

-- a test that refuses, and one that lets through
peel : (b : Bool) (o : Option (List ℕ)) (row : List ℕ) → (if b then None else o) ≡ Some row → (b ≡ false) × (o ≡ Some row)
peel true o row e = absurd cc
peel false o row e = (refl, e)

fills_when : (gap : Gap) (row : List ℕ) → fills gap row ≡ true → Fills gap row
fills_when Closed [] e = refl
fills_when Closed (b ∷ row) e = let none : length (b ∷ row) ≡ 0 = eqb-true _ _ e in absurd (omega arith)
fills_when Any row e = tt
fills_when Named row e = ltb-true _ _ e

when_fills : (gap : Gap) (row : List ℕ) → Fills gap row → fills gap row ≡ true
when_fills Closed row e = rw e refl
when_fills Any row e = refl
when_fills Named row some = lt-ltb _ _ some

filled_when : (gap : Gap) (row wanted : List ℕ) (b : Bool) → fills gap row ≡ b → (if b then Some row else None) ≡ Some wanted → (row ≡ wanted) × Fills gap row
filled_when gap row wanted true e same = (cc, fills_when gap row e)
filled_when gap row wanted false e same = absurd cc

-- a text that is long enough, and begins and ends so
in_three : (before after text : List ℕ) → length before + length after ≤ length text → take (length before) text ≡ before → drop (length text - length after) text ≡ after
    → text ≡ before ++ (take (length text - length after - length before) (drop (length before) text) ++ after)
in_three before after text long front back =
    let rest = drop (length before) text in
    let n = length text - length after - length before in
    let behind : drop n rest ≡ after = drop-drop n (length before) text ∙ ap (λ (k : ℕ). drop k text) (omega arith) ∙ back in
    sym (take-append-drop (length before) text) ∙ (λ j. front j ++ ((sym (take-append-drop n rest) ∙ ap (λ (l : List ℕ). take n rest ++ l) behind) j))

pub covers_when : (node : PatternNode) (text row : List ℕ) → covered node text ≡ Some row → Covers node text row
unfolding covered
covers_when node text row e =
    let long = peel _ _ row e in
    let front = peel _ _ row long.1 in
    let back = peel _ _ row front.1 in
    let filled = filled_when node.gap _ row _ refl back.1 in
    let begins : take (length node.before) text ≡ node.before = (bytes_eq-Decides _ _).0 (not-false _ front.0) in
    let ends : drop (length text - length node.after) text ≡ node.after = (bytes_eq-Decides _ _).0 (not-false _ back.0) in
    let parts = in_three node.before node.after text (ltb-false _ _ long.0) begins ends in
    record { covered = rw (← filled.0) parts; filled = subst (Fills node.gap) filled.0 filled.1 }

cover_parts : (node : PatternNode) (row : List ℕ) → Fills node.gap row → covered node (node.before ++ (row ++ node.after)) ≡ Some row
unfolding covered
cover_parts node row filled =
    let long : length (node.before ++ (row ++ node.after)) ≡ length node.before + (length row + length node.after) = omega (arith, length-append node.before (row ++ node.after), length-append row node.after) in
    let fits : nat_lt (length (node.before ++ (row ++ node.after))) (length node.before + length node.after) ≡ false = le-ltb _ _ (omega (arith, long)) in
    let n : length (node.before ++ (row ++ node.after)) - length node.after ≡ length (node.before ++ row) = omega (arith, long, length-append node.before row) in
    let k : length (node.before ++ row) - length node.before ≡ length row = omega (arith, length-append node.before row) in
    let front : take (length node.before) (node.before ++ (row ++ node.after)) ≡ node.before = take_at node.before _ _ refl in
    let back : drop (length (node.before ++ row)) (node.before ++ (row ++ node.after)) ≡ node.after = ap (drop (length (node.before ++ row))) (sym (append_assoc node.before row node.after)) ∙ drop_at (node.before ++ row) node.after _ refl in
    let middle : take (length row) (drop (length node.before) (node.before ++ (row ++ node.after))) ≡ row = ap (take (length row)) (drop_at node.before (row ++ node.after) _ refl) ∙ take_at row node.after _ refl in
    let same_front : bytes_eq (take (length node.before) (node.before ++ (row ++ node.after))) node.before ≡ true = (bytes_eq-Decides _ _).1 front in
    let same_back : bytes_eq (drop (length (node.before ++ row)) (node.before ++ (row ++ node.after))) node.after ≡ true = (bytes_eq-Decides _ _).1 back in
    rw (fits, same_front, n, same_back, k, middle, when_fills node.gap row filled) refl

pub when_covers : (node : PatternNode) (text row : List ℕ) → Covers node text row → covered node text ≡ Some row
when_covers node text row c = rw c.covered (cover_parts node row c.filled)

-- ---- all nodes

row_behind : (gap : Gap) (b : Bool) (rows more : List (List ℕ)) (row : List ℕ) → is_named gap ≡ b
    → with_row rows gap row ++ more ≡ rows ++ (if is_named gap then row ∷ more else more)
row_behind gap true rows more row e = rw e (append_assoc rows (row ∷ []) more)
row_behind gap false rows more row e = rw e refl

pub reads_when : (rows : List (List ℕ)) (nodes : List PatternNode) (texts found : List (List ℕ)) → reading rows nodes texts ≡ Some found
    → (more : List (List ℕ)) × Reads nodes texts more × (found ≡ rows ++ more)
unfolding reading
reads_when rows [] [] found e = let same : found ≡ rows = cc in ([], refl, same ∙ sym (append-nil rows))
reads_when rows [] (text ∷ texts) found e = absurd cc
reads_when rows (node ∷ nodes) [] found e = absurd cc
reads_when rows (node ∷ nodes) (text ∷ texts) found e = by (covered node text) refl (λ rows_. reads_when rows_ nodes texts found) e
  where
    by : (o : Option (List ℕ)) → covered node text ≡ o
        → ((rows_ : List (List ℕ)) → reading rows_ nodes texts ≡ Some found → (more : List (List ℕ)) × Reads nodes texts more × (found ≡ rows_ ++ more))
        → option_and_then (λ row. reading (with_row rows node.gap row) nodes texts) o ≡ Some found
        → (more : List (List ℕ)) × Reads (node ∷ nodes) (text ∷ texts) more × (found ≡ rows ++ more)
    by None e again none = absurd cc
    by (Some row) e again same =
        let rest = again (with_row rows node.gap row) same in
        let more : List (List ℕ) = if is_named node.gap then row ∷ rest.0 else rest.0 in
        (more, (row, rest.0, covers_when node text row e, rest.1, refl), rest.2 ∙ row_behind node.gap (is_named node.gap) rows rest.0 row refl)

pub when_reads : (rows : List (List ℕ)) (nodes : List PatternNode) (texts more : List (List ℕ)) → Reads nodes texts more → reading rows nodes texts ≡ Some (rows ++ more)
unfolding reading
when_reads rows [] [] more e = rw (e, append-nil rows) refl
when_reads rows [] (text ∷ texts) more e = absurd e
when_reads rows (node ∷ nodes) [] more e = absurd e
when_reads rows (node ∷ nodes) (text ∷ texts) more r =
    rw (when_covers node text r.0 r.2)
    (when_reads (with_row rows node.gap r.0) nodes texts r.1 r.3
    ∙ ap Some (row_behind node.gap (is_named node.gap) rows r.1 r.0 refl ∙ ap (λ l. rows ++ l) (sym r.4)))

pub read_in_one_way : IsReadInOneWay
read_in_one_way nodes texts rows =
    ((λ e. let r = reads_when [] nodes texts rows e in subst (Reads nodes texts) (sym r.2) r.1), when_reads [] nodes texts rows)
