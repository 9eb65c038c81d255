-- Tables of states as bits.
use Rattle.std.proofs.Common.{◌≡◌, ℕ, zero, suc, ◌+◌, ◌*◌, ◌/◌, ◌<◌, ◌≤◌, inl, inr, Bool, true, false, ◌&&◌, ◌||◌, List, [], ◌∷◌, ◌++◌, length, get_or, set, replicate, ◌==◌, Option, refl, sym, ap, ap₂, ◌∙◌, subst, arith, length-append}
use Rattle.std.proofs.Math.Seq.{get_or-append_seam}
use Rattle.std.proofs.lemmas.Bool.{cases_eq, cases_lt}
use Rattle.std.proofs.lemmas.List.{get_or-set_other, get_or-set_same, get_or_append_left, length-replicate}
use Rattle.path_glob.specs.Bits.{Meet, shifted}
use Rattle.path_glob.specs.Glob.{Simple, SomeCovers}
use Rattle.path_glob.specs.Positions.{Leads, bit_of}
use Rattle.path_glob.specs.States.{Mark, First, Over, Star, LeadOut, has_mark, leads_on, mark_at}
use Rattle.path_glob.specs.Tables.{AreEmpty, AreEntered, AreMarks, AreSized, AreSteps, AreTables, AreTablesOf, HaveRoom, IsEntered}
use Rattle.path_glob.specs.declared.cut.ByteSet.{ByteSet}
use Rattle.path_glob.specs.declared.states.State.{State}
use Rattle.path_glob.specs.declared.tables.Tables.{Tables}
use Rattle.path_glob.proofs.BitLemmas.{AreDone, done_more, none_held}
use Rattle.path_glob.proofs.CoverLemmas.{Tells}
use Rattle.path_glob.proofs.PartLemmas.{same_byte}
use Rattle.path_glob.proofs.PlaceLemmas.{any_default, differs}
use Rattle.path_glob.proofs.PositionLemmas.{leads_alike}
use Rattle.path_glob.proofs.RunLemmas.{Goes, goes_on, visited}
use Rattle.path_glob.proofs.StateLemmas.{IsStep, lead_rows, none_past, rows_lead}

-- ---- made

pub mark_here : (mark : Mark) (states : List State) (i : ℕ) (d : State) → i < length states → mark_at mark states i ≡ has_mark mark (get_or states i d)
mark_here mark [] i d within = absurd (omega (arith, within))
mark_here mark (first ∷ states) zero d within = refl
mark_here mark (first ∷ states) (suc i) d within = mark_here mark states i d (omega (arith, within))

pub all_marks : (mark : Mark) (states : List State) (bits : List ℕ) (i : ℕ) → length states ≤ i → length bits ≡ length states / 64 + 1 → AreDone (mark_at mark states) (bit_of bits) i → AreMarks mark states bits
all_marks mark states bits i last room done = record {
  room = room;
  marks = λ p. elim (cases_lt p i) [
    | inl before ↦ done.0 p before
    | inr past ↦ done.1 p past ∙ sym (none_past mark states p (omega (arith, last, past)))
  ];
}

pub sized : (states : List State) (tables : Tables) (words : ℕ) → words ≡ length states / 64 + 1 → AreTables states tables → AreSized tables words
sized states tables words is are = record {
  firsts = are.firsts.room ∙ sym is;
  stars = are.stars.room ∙ sym is;
  ends = are.ends.room ∙ sym is;
  count = are.over.count;
  over = λ b within. (are.over.marks b within).room ∙ sym is;
}

-- ---- the sets of the bytes

pub no_sets : (words : ℕ) → AreEmpty [] words 0
no_sets words = record { count_is = refl; empty = λ b within. absurd (omega (arith, within)) }

pub one_set_more : (sets : List (List ℕ)) (one : List ℕ) (words b : ℕ) → AreEmpty sets words b → one ≡ replicate words 0 → AreEmpty (sets ++ one ∷ []) words (b + 1)
one_set_more sets one words b are is = record {
  count_is = length-append sets (one ∷ []) ∙ ap (λ (n : ℕ). n + 1) are.count_is;
  empty = λ k within. elim (cases_eq k b) [
    | inl same ↦ ap (λ (n : ℕ). get_or (sets ++ one ∷ []) n []) (same ∙ sym are.count_is) ∙ get_or-append_seam sets one [] [] ∙ is
    | inr other ↦
        let before : k < b = omega (arith, within, other) in
        get_or_append_left sets (one ∷ []) [] k (omega (arith, before, are.count_is)) ∙ are.empty k before
  ];
}

or_none : (x : Bool) → x ≡ (x || false)
or_none true = refl
or_none false = refl

or_true : (x : Bool) → true ≡ (x || true)
or_true true = refl
or_true false = refl

pub not_entered : (place : ℕ) (enters : Bool) (bits : List ℕ) → enters ≡ false → IsEntered enters place bits bits
not_entered place enters bits is = record {
  room = refl;
  here = or_none (bit_of bits place) ∙ ap (λ (e : Bool). bit_of bits place || e) (sym is);
  others = λ p other. refl;
}

pub is_entered : (place : ℕ) (enters : Bool) (old new : List ℕ) → enters ≡ true → length new ≡ length old → bit_of new place ≡ true → ((p : ℕ) → (p ≡ place → ⊥) → bit_of new p ≡ bit_of old p)
    → IsEntered enters place old new
is_entered place enters old new is room added kept = record {
  room = room;
  here = added ∙ or_true (bit_of old place) ∙ ap (λ (e : Bool). bit_of old place || e) (sym is);
  others = kept;
}

pub entered_where : (next other : Option ByteSet) (place : ℕ) (old new : List (List ℕ)) → next ≡ other → AreEntered (leads_on other) place old new → AreEntered (leads_on next) place old new
entered_where next other place old new is entered = subst (λ (n : Option ByteSet). AreEntered (leads_on n) place old new) (sym is) entered

-- a place is put into one of the sets
pub one_entered : (sets : List (List ℕ)) (x place : ℕ) (d new : List ℕ) → x < length sets → length new ≡ length (get_or sets x d) → bit_of new place ≡ true
    → ((p : ℕ) → (p ≡ place → ⊥) → bit_of new p ≡ bit_of (get_or sets x d) p) → AreEntered (λ b. b == x) place sets (set sets x new)
one_entered sets x place d new within room added kept b small = elim (cases_eq b x) [
  | inl same ↦
      let at : get_or sets x d ≡ get_or sets x [] = any_default sets x d [] within in
      subst (λ (k : ℕ). IsEntered (k == x) place (get_or sets k []) (get_or (set sets x new) k [])) (sym same)
      (subst (λ (l : List ℕ). IsEntered (x == x) place (get_or sets x []) l) (sym (get_or-set_same sets x new [] within))
      (is_entered place (x == x) (get_or sets x []) new (same_byte x) (room ∙ ap length at) added (λ p other. kept p other ∙ ap (λ (l : List ℕ). bit_of l p) at)))
  | inr other ↦
      subst (λ (l : List ℕ). IsEntered (b == x) place (get_or sets b []) l) (sym (get_or-set_other sets x b new [] other)) (not_entered place (b == x) (get_or sets b []) (differs b x other))
]

-- a place was put into the sets of the bytes up to this one
pub record Entering (enters : ℕ → Bool) (place : ℕ) (old now : List (List ℕ)) (b : ℕ) : Type 0 where
  pub done : (j : ℕ) → j < b → IsEntered (enters j) place (get_or old j []) (get_or now j [])
  pub kept : (j : ℕ) → b ≤ j → get_or now j [] ≡ get_or old j []

pub entering_start : (enters : ℕ → Bool) (place : ℕ) (old : List (List ℕ)) → Entering enters place old old 0
entering_start enters place old = record { done = λ j before. absurd (omega (arith, before)); kept = λ j from. refl }

pub entering_not : (enters : ℕ → Bool) (place : ℕ) (old now : List (List ℕ)) (b : ℕ) → enters b ≡ false → Entering enters place old now b → Entering enters place old now (b + 1)
entering_not enters place old now b is so = record {
  done = λ j before. elim (cases_eq j b) [
    | inl same ↦
        subst (λ (k : ℕ). IsEntered (enters k) place (get_or old k []) (get_or now k [])) (sym same)
        (subst (λ (l : List ℕ). IsEntered (enters b) place (get_or old b []) l) (sym (so.kept b (omega arith))) (not_entered place (enters b) (get_or old b []) is))
    | inr other ↦ so.done j (omega (arith, before, other))
  ];
  kept = λ j from. so.kept j (omega (arith, from));
}

pub entering_one : (enters : ℕ → Bool) (place : ℕ) (old now : List (List ℕ)) (b : ℕ) (d new : List ℕ) → b < length now → enters b ≡ true → length new ≡ length (get_or now b d) → bit_of new place ≡ true
    → ((p : ℕ) → (p ≡ place → ⊥) → bit_of new p ≡ bit_of (get_or now b d) p) → Entering enters place old now b → Entering enters place old (set now b new) (b + 1)
entering_one enters place old now b d new within is room added kept so =
    let at : get_or now b d ≡ get_or old b [] = any_default now b d [] within ∙ so.kept b (omega arith) in
    record {
      done = λ j before. elim (cases_eq j b) [
        | inl same ↦
            subst (λ (k : ℕ). IsEntered (enters k) place (get_or old k []) (get_or (set now b new) k [])) (sym same)
            (subst (λ (l : List ℕ). IsEntered (enters b) place (get_or old b []) l) (sym (get_or-set_same now b new [] within))
            (is_entered place (enters b) (get_or old b []) new is (room ∙ ap length at) added (λ p other. kept p other ∙ ap (λ (l : List ℕ). bit_of l p) at)))
        | inr other ↦ subst (λ (l : List ℕ). IsEntered (enters j) place (get_or old j []) l) (sym (get_or-set_other now b j new [] other)) (so.done j (omega (arith, before, other)))
      ];
      kept = λ j from. get_or-set_other now b j new [] (λ e. absurd (omega (arith, from, e))) ∙ so.kept j (omega (arith, from));
    }

-- the states up to this one were put into the sets of the bytes that lead on from them
abbrev pub StatesIn : List State → List (List ℕ) → ℕ → Type 0
StatesIn states over place =
    (b : ℕ) → b < 256 → (length (get_or over b []) ≡ length states / 64 + 1) × AreDone (mark_at (Over b) states) (bit_of (get_or over b [])) place

pub no_states_in : (states : List State) (over : List (List ℕ)) → AreEmpty over (length states / 64 + 1) 256 → StatesIn states over 0
no_states_in states over are b small = (
  ap length (are.empty b small) ∙ length-replicate (length states / 64 + 1) 0,
  (λ j before. absurd (omega (arith, before)), λ j from. ap (λ (l : List ℕ). bit_of l j) (are.empty b small) ∙ none_held (length states / 64 + 1) j),
)

pub one_state_in : (states : List State) (old new : List (List ℕ)) (place : ℕ) (d : State) → place < length states → StatesIn states old place
    → AreEntered (leads_on (get_or states place d).next) place old new → StatesIn states new (place + 1)
one_state_in states old new place d within so entered b small =
    let e = entered b small in
    let was = so b small in (
      e.room ∙ was.0,
      done_more (mark_at (Over b) states) (bit_of (get_or old b [])) (bit_of (get_or new b [])) place
          (e.here ∙ ap (λ (x : Bool). x || leads_on (get_or states place d).next b) (was.1.1 place (omega arith)) ∙ sym (mark_here (Over b) states place d within)) e.others was.1,
    )

pub have_room : (states : List State) (over : List (List ℕ)) (place : ℕ) → length over ≡ 256 → place < length states → StatesIn states over place → HaveRoom over place
have_room states over place count within so = record { count = count; room = λ b small. let was = so b small in omega (arith, within, was.0) }

pub all_states_in : (states : List State) (over : List (List ℕ)) (place : ℕ) → length over ≡ 256 → length states ≤ place → StatesIn states over place → AreSteps states over
all_states_in states over place count last so = record { count = count; marks = λ b small. all_marks (Over b) states (get_or over b []) place last (so b small).0 (so b small).1 }

pub still_room : (old now : List (List ℕ)) (enters : ℕ → Bool) (place b : ℕ) (d : List ℕ) → b < 256 → b < length now → HaveRoom old place → Entering enters place old now b → place / 64 < length (get_or now b d)
still_room old now enters place b d small within room so =
    let at : get_or now b d ≡ get_or old b [] = any_default now b d [] within ∙ so.kept b (omega arith) in
    omega (arith, room.room b small, ap length at)

pub none_entered : (place : ℕ) (sets : List (List ℕ)) → AreEntered (λ b. false) place sets sets
none_entered place sets b small = not_entered place false (get_or sets b []) refl

-- ---- run

pub begun_not : (x y starts : Bool) → starts ≡ false → x ≡ (x || (starts && y))
begun_not x y starts e = or_none x ∙ ap (λ (s : Bool). x || (s && y)) (sym e)

pub begun_here : (x y starts : Bool) → starts ≡ true → (x || y) ≡ (x || (starts && y))
begun_here x y starts e = ap (λ (s : Bool). x || (s && y)) (sym e)

shifted_alike : (f g : ℕ → Bool) (p : ℕ) → ((q : ℕ) → f q ≡ g q) → shifted f p ≡ shifted g p
shifted_alike f g zero same = refl
shifted_alike f g (suc p) same = same p

step_is : (states : List State) (b : ℕ) (over stars old new : List ℕ) → AreMarks (Over b) states over → AreMarks Star states stars → length old ≡ length states / 64 + 1
    → ((p : ℕ) → p < 64 * length old → bit_of new p ≡ (shifted (λ q. bit_of old q && bit_of over q) p || (bit_of old p && bit_of stars p)))
    → IsStep states b (bit_of old) (bit_of new)
step_is states b over stars old new on stay room moved p within =
    moved p (omega (arith, room, within))
    ∙ ap₂ (λ (x y : Bool). x || y)
    (shifted_alike (λ q. bit_of old q && bit_of over q) (λ q. bit_of old q && mark_at (Over b) states q) p (λ q. ap (λ (x : Bool). bit_of old q && x) (on.marks q)))
    (ap (λ (x : Bool). bit_of old p && x) (stay.marks p))

-- a position is visited, and then a byte is gone over
pub visit_is : (states : List State) (tables : Tables) (node : List ℕ) (old found now : ℕ → Bool) (active begun : List ℕ) (i : ℕ) → AreTables states tables → i ≤ length node
    → Goes states node old found (bit_of active) i i
    → ((p : ℕ) → bit_of begun p ≡ (bit_of active p || (old i && bit_of tables.firsts p)))
    → Tells (now i) (Meet begun tables.ends) → ((j : ℕ) → (j ≡ i → ⊥) → now j ≡ found j)
    → Goes states node old now (bit_of begun) i (i + 1)
visit_is states tables node old found now active begun i are within goes begins ended others =
    visited states node old found now (bit_of active) (bit_of begun) i within goes
    (λ p. begins p ∙ ap (λ (x : Bool). bit_of active p || (old i && x)) (are.firsts.marks p)) (
      λ yes. let met = ended.0 yes in (met.0, met.1, sym (are.ends.marks met.0) ∙ met.2),
      λ w. ended.1 (w.0, w.1, are.ends.marks w.0 ∙ w.2),
    )
    others

pub step_on : (states : List State) (tables : Tables) (node : List ℕ) (old found : ℕ → Bool) (over begun after : List ℕ) (i : ℕ) → AreTables states tables → AreSized tables (length begun) → i < length node
    → get_or node i 0 < 256 → over ≡ get_or tables.over.items (get_or node i 0) []
    → Goes states node old found (bit_of begun) i (i + 1)
    → ((p : ℕ) → p < 64 * length begun → bit_of after p ≡ (shifted (λ q. bit_of begun q && bit_of over q) p || (bit_of begun p && bit_of tables.stars p)))
    → Goes states node old found (bit_of after) (i + 1) (i + 1)
step_on states tables node old found over begun after i are fit within small is goes moved =
    goes_on states node old found (bit_of begun) (bit_of after) i within goes
    (step_is states (get_or node i 0) over tables.stars begun after (subst (AreMarks (Over (get_or node i 0)) states) (sym is) (are.over.marks (get_or node i 0) small)) are.stars
    (sym fit.firsts ∙ are.firsts.room) moved)

-- ---- rows

pub fits_words : (rows : List (List Simple)) (tables : Tables) (words : ℕ) → AreTablesOf rows tables words → AreSized tables words
fits_words rows tables words (states, are_rows, are_tables, is) = sized states tables words is are_tables

pub rows_leads : (rows : List (List Simple)) (tables : Tables) (words : ℕ) (node : List ℕ) (old new : ℕ → Bool) → AreTablesOf rows tables words
    → ((states : List State) → AreTables states tables → Leads (LeadOut (mark_at First states) states) node old new) → Leads (SomeCovers rows) node old new
rows_leads rows tables words node old new (states, are_rows, are_tables, is) leads =
    leads_alike {R = LeadOut (mark_at First states) states} {S = SomeCovers rows} node old new (λ bytes. rows_lead rows states bytes are_rows) (λ bytes. lead_rows rows states bytes are_rows)
    (leads states are_tables)

pub same_words : (rows : List (List Simple)) (tables : Tables) (words more : ℕ) → more ≡ words → AreTablesOf rows tables words → AreTablesOf rows tables more
same_words rows tables words more is are = subst (AreTablesOf rows tables) (sym is) are
