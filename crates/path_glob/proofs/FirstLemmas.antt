-- What a glob fits, by its first piece.
use Rattle.std.proofs.Common.{◌≡◌, ℕ, ◌<◌, ◌==◌, inl, inr, Bool, true, false, cond, List, [], ◌∷◌, ◌++◌, length, take, drop, map, All, refl, sym, ap, ◌∙◌, subst, arith, eqb, append_assoc, append-nil}
use Rattle.std.proofs.lemmas.Bool.{eqb-true}
use Rattle.std.proofs.lemmas.List.Elements.{All-append, All-cons, All-from_get_or, All-head, All-nil, All-push, All-tail}
use Rattle.std.proofs.lemmas.List.Splits.{slice_split-cons_no, slice_split-cons_yes}
use Rattle.std.proofs.Math.Seq.{take-append_seam}
use Rattle.std.specs.List.{onto_first, position_or_len, slice_split}
use Rattle.std.proofs.lemmas.List.{get_or-take, length-take, take-append-drop, append_cancel_left}
use Rattle.std.proofs.lemmas.List.Sums.{fails_before_first}
use Rattle.metric_path.specs.Path.{is_dot, nodes_of}
use Rattle.path_glob.specs.Glob.{Braces, Exact, OneOf, NodeCovers, Piece, PieceCovers, Plain, Simple, SomeCovers}
use Rattle.path_glob.specs.Laws.{BeginsWith, DotThen, FirstThen, FitsPath, FitsSome, IsByte, IsClosed, IsMember, literal_front}
use Rattle.path_glob.specs.Parts.{HasNone}
use Rattle.path_glob.specs.Reading.{is_comma, is_special, pieces_from, pieces_of, pieces_within, members_of, row_after, row_of, simple_of, values_of}
use Rattle.path_glob.proofs.CoverLemmas.{IsPlain, exactly, fits_none, itself, Tells, moved, nodes_never_none, none_fits, ordinary_of, tells_no}
use Rattle.path_glob.proofs.PositionLemmas.{alone_row, row_alone}
use Rattle.path_glob.proofs.PartLemmas.{braces_at, first_differs, list_at, others_differ}

abbrev Parts : List (List ℕ) → Type 0
Parts parts = (first : List ℕ) × (others : List (List ℕ)) × parts ≡ first ∷ others

parts_of : (parts : List (List ℕ)) → 0 < length parts → Parts parts
parts_of [] some = absurd (omega arith)
parts_of (first ∷ others) some = (first, others, refl)

-- the first node of a text, and the others
first_node : (text : List ℕ) → Parts (nodes_of text)
first_node text = parts_of (nodes_of text) (nodes_never_none text)

-- bytes without a dot before a text stand in its first node
nodes_onto : (front text first : List ℕ) (others : List (List ℕ)) → HasNone 46 front → nodes_of text ≡ first ∷ others → nodes_of (front ++ text) ≡ (front ++ first) ∷ others
nodes_onto [] text first others none is = is
nodes_onto (b ∷ front) text first others none is =
    slice_split-cons_no is_dot b (front ++ text) (first_differs 46 b front none)
    ∙ ap (onto_first b) (nodes_onto front text first others (others_differ 46 b front none) is)

-- where bytes come first in the first node of a path
abbrev CutNode : List ℕ → List ℕ → List ℕ → List (List ℕ) → Type 0
CutNode front path left others = (rest : List ℕ) × (path ≡ front ++ rest) × HasNone 46 front × (nodes_of rest ≡ left ∷ others)

cut_byte : (b : ℕ) (front : List ℕ) (x : ℕ) (path left : List ℕ) (others : List (List ℕ)) (dot : Bool) → is_dot x ≡ dot → nodes_of (x ∷ path) ≡ (b ∷ (front ++ left)) ∷ others
    → (nodes_of path ≡ (front ++ left) ∷ others → CutNode front path left others) → CutNode (b ∷ front) (x ∷ path) left others
cut_byte b front x path left others true dot is cut = absurd (let e : ◌≡◌ {A = List (List ℕ)} ([] ∷ nodes_of path) ((b ∷ (front ++ left)) ∷ others) = sym (slice_split-cons_yes is_dot x path dot) ∙ is in cc)
cut_byte b front x path left others false dot is cut =
    let next = first_node path in
    let onto : ◌≡◌ {A = List (List ℕ)} ((x ∷ next.0) ∷ next.1) ((b ∷ (front ++ left)) ∷ others) = sym (ap (onto_first x) next.2) ∙ sym (slice_split-cons_no is_dot x path dot) ∙ is in
    let same : x ≡ b = cc in
    let node : nodes_of path ≡ (front ++ left) ∷ others = let is' = next.2 in cc in
    let w = cut node in
    (w.0, cc (same, w.1), All-cons (λ c. (c == 46) ≡ false) b front (rw (← same) dot) w.2, w.3)

cut_node : (front path left : List ℕ) (others : List (List ℕ)) → nodes_of path ≡ (front ++ left) ∷ others → CutNode front path left others
cut_node [] path left others is = (path, refl, All-nil _, is)
cut_node (b ∷ front) [] left others is = absurd cc
cut_node (b ∷ front) (x ∷ path) left others is = cut_byte b front x path left others (is_dot x) refl is (cut_node front path left others)

-- pieces one after the other
pieces_then : (first pieces : List Piece) (front rest : List ℕ) → NodeCovers first front → NodeCovers pieces rest → NodeCovers (first ++ pieces) (front ++ rest)
pieces_then [] pieces front rest is covers = subst (λ (l : List ℕ). NodeCovers pieces (l ++ rest)) (sym is) covers
pieces_then (piece ∷ first) pieces front rest (one, left, is, here, others) covers =
    (one, left ++ rest, ap (λ (l : List ℕ). l ++ rest) is ∙ append_assoc one left rest, here, pieces_then first pieces left rest others covers)

abbrev InParts : List Piece → List Piece → List ℕ → Type 0
InParts first pieces bytes = (front : List ℕ) × (rest : List ℕ) × (bytes ≡ front ++ rest) × NodeCovers first front × NodeCovers pieces rest

then_pieces : (first pieces : List Piece) (bytes : List ℕ) → NodeCovers (first ++ pieces) bytes → InParts first pieces bytes
then_pieces [] pieces bytes covers = ([], bytes, refl, refl, covers)
then_pieces (piece ∷ first) pieces bytes (one, left, is, here, others) =
    let w = then_pieces first pieces left others in
    (one ++ w.0, w.1, is ∙ ap (λ (l : List ℕ). one ++ l) w.2 ∙ sym (append_assoc one w.0 w.1), (one, w.0, refl, here, w.3), w.4)

-- a text that reads as these pieces, whatever follows it
abbrev pub Reads : List ℕ → List Piece → Type 0
Reads front pieces = HasNone 46 front × ((more : List ℕ) → pieces_of (front ++ more) ≡ pieces ++ pieces_of more)

pub first_pieces : (front : List ℕ) (pieces : List Piece) (glob path : List ℕ) → Reads front pieces → FitsPath (front ++ glob) path → FirstThen (NodeCovers pieces) glob path
first_pieces front pieces glob path reads fits =
    let parts = first_node glob in
    let nodes = first_node path in
    let whole = nodes_onto front glob parts.0 parts.1 reads.0 parts.2 in
    let both = moved (nodes_of (front ++ glob)) ((front ++ parts.0) ∷ parts.1) (nodes_of path) (nodes.0 ∷ nodes.1) whole nodes.2 fits in
    let turn = then_pieces pieces (pieces_of parts.0) nodes.0 (subst (λ (p : List Piece). NodeCovers p nodes.0) (reads.1 parts.0) both.0) in
    let cut = cut_node turn.0 path turn.1 nodes.1 (nodes.2 ∙ ap (λ (l : List ℕ). l ∷ nodes.1) turn.2) in
    (turn.0, cut.0, cut.1, cut.2, turn.3, moved (parts.0 ∷ parts.1) (nodes_of glob) (turn.1 ∷ nodes.1) (nodes_of cut.0) (sym parts.2) (sym cut.3) (turn.4, both.1))

pub pieces_first : (front : List ℕ) (pieces : List Piece) (glob path : List ℕ) → Reads front pieces → FirstThen (NodeCovers pieces) glob path → FitsPath (front ++ glob) path
pieces_first front pieces glob path reads (bytes, rest, is, none, covers, fits) =
    let parts = first_node glob in
    let nodes = first_node rest in
    let whole = nodes_onto front glob parts.0 parts.1 reads.0 parts.2 in
    let onward : nodes_of path ≡ (bytes ++ nodes.0) ∷ nodes.1 = ap nodes_of is ∙ nodes_onto bytes rest nodes.0 nodes.1 none nodes.2 in
    let left = moved (nodes_of glob) (parts.0 ∷ parts.1) (nodes_of rest) (nodes.0 ∷ nodes.1) parts.2 nodes.2 fits in
    let first = subst (λ (p : List Piece). NodeCovers p (bytes ++ nodes.0)) (sym (reads.1 parts.0)) (pieces_then pieces (pieces_of parts.0) bytes nodes.0 covers left.0) in
    moved ((front ++ parts.0) ∷ parts.1) (nodes_of (front ++ glob)) ((bytes ++ nodes.0) ∷ nodes.1) (nodes_of path) (sym whole) (sym onward) (first, left.1)

-- a row that reads as these simple pieces, whatever follows it
abbrev pub RowReads : List ℕ → List Simple → Type 0
RowReads front row = (more : List ℕ) → row_of (front ++ more) ≡ row ++ row_of more

map_onto : (row others : List Simple) → map Plain (row ++ others) ≡ map Plain row ++ map Plain others
map_onto [] others = refl
map_onto (piece ∷ row) others = ap (λ (l : List Piece). Plain piece ∷ l) (map_onto row others)

on_row : (front : List ℕ) (row : List Simple) (before : List ℕ) → RowReads front row → map Plain (row_of (front ++ before)) ≡ map Plain row ++ map Plain (row_of before)
on_row front row before reads = ap (map Plain) (reads before) ∙ map_onto row (row_of before)

pieces_assoc : (a b c : List Piece) → (a ++ b) ++ c ≡ a ++ (b ++ c)
pieces_assoc a b c = append_assoc a b c

same_choice : (F : List Piece → List Piece) (test : Bool) (a b x y : List Piece) → a ≡ F x → b ≡ F y → cond test a b ≡ F (cond test x y)
same_choice F true a b x y e f = e
same_choice F false a b x y e f = f

-- such a row stands before the other pieces
mutual
  row_first : (front : List ℕ) (row : List Simple) → RowReads front row → (before more : List ℕ) → pieces_from (front ++ before) more ≡ map Plain row ++ pieces_from before more
  row_first front row reads before [] = on_row front row before reads
  row_first front row reads before (b ∷ more) =
      same_choice (λ (l : List Piece). map Plain row ++ l) (eqb b 123) _ _ (pieces_within before [] more) (pieces_from (before ++ b ∷ []) more)
      (row_within front row reads before [] more)
      (ap (λ (l : List ℕ). pieces_from l more) (append_assoc front before (b ∷ [])) ∙ row_first front row reads (before ++ b ∷ []) more)

  row_within : (front : List ℕ) (row : List Simple) → RowReads front row → (before inner more : List ℕ) → pieces_within (front ++ before) inner more ≡ map Plain row ++ pieces_within before inner more
  row_within front row reads before inner [] =
      ap (λ (l : List ℕ). map Plain (row_of l)) (append_assoc front before (123 ∷ inner)) ∙ on_row front row (before ++ 123 ∷ inner) reads
  row_within front row reads before inner (b ∷ more) =
      same_choice (λ (l : List Piece). map Plain row ++ l) (eqb b 125) _ _ (map Plain (row_of before) ++ Braces (values_of inner) ∷ pieces_from [] more) (pieces_within before (inner ++ b ∷ []) more)
      (ap (λ (l : List Piece). l ++ Braces (values_of inner) ∷ pieces_from [] more) (on_row front row before reads) ∙ append_assoc (map Plain row) (map Plain (row_of before)) (Braces (values_of inner) ∷ pieces_from [] more))
      (row_within front row reads before (inner ++ b ∷ []) more)

-- bytes that open no braces stand before what follows them
passed_on : (seen text more : List ℕ) → HasNone 123 text → pieces_from seen (text ++ more) ≡ pieces_from (seen ++ text) more
passed_on seen [] more none = ap (λ (l : List ℕ). pieces_from l more) (sym (append-nil seen))
passed_on seen (b ∷ text) more none =
    ap (λ (t : Bool). cond t (pieces_within seen [] (text ++ more)) (pieces_from (seen ++ b ∷ []) (text ++ more))) (first_differs 123 b text none)
    ∙ passed_on (seen ++ b ∷ []) text more (others_differ 123 b text none)
    ∙ ap (λ (l : List ℕ). pieces_from l more) (append_assoc seen (b ∷ []) text)

pub row_reads : (front : List ℕ) (row : List Simple) → HasNone 46 front → HasNone 123 front → RowReads front row → Reads front (map Plain row)
row_reads front row no_dot no_braces reads =
    (no_dot, λ more. passed_on [] front more no_braces ∙ ap (λ (l : List ℕ). pieces_from l more) (sym (append-nil front)) ∙ row_first front row reads [] more)

-- a byte outside brackets is a piece
pub byte_reads : (b : ℕ) → (b == 46) ≡ false → (b == 91) ≡ false → (b == 123) ≡ false → Reads (b ∷ []) (Plain (simple_of b) ∷ [])
byte_reads b no_dot no_list no_braces =
    row_reads (b ∷ []) (simple_of b ∷ []) (All-cons (λ x. (x == 46) ≡ false) b [] no_dot (All-nil _)) (All-cons (λ x. (x == 123) ≡ false) b [] no_braces (All-nil _)) (λ more. rw no_list refl)

exact_said : (b : ℕ) → is_special b ≡ false → simple_of b ≡ Exact b
exact_said b plain = let o = ordinary_of b plain in rw (o.no_row, o.no_any) refl

-- bytes that stand for themselves, and the pieces of what follows them
plain_row : (front : List ℕ) → IsPlain front → RowReads front (map Exact front)
plain_row [] plain more = refl
plain_row (b ∷ front) plain more =
    let o = ordinary_of b (All-head (λ x. is_special x ≡ false) b front plain) in
    let others = plain_row front (All-tail (λ x. is_special x ≡ false) b front plain) more in
    rw (o.no_list, o.no_row, o.no_any, others) refl

plain_pieces : (front more : List ℕ) → IsPlain front → pieces_of (front ++ more) ≡ map Plain (map Exact front) ++ pieces_of more
plain_pieces front more plain =
    passed_on [] front more (λ k d within. (ordinary_of _ (plain k d within)).no_braces)
    ∙ ap (λ (l : List ℕ). pieces_from l more) (sym (append-nil front)) ∙ row_first front (map Exact front) (plain_row front plain) [] more

-- what such bytes and pieces behind them cover begins with the bytes
pub plain_first : (front more bytes : List ℕ) → IsPlain front → NodeCovers (pieces_of (front ++ more)) bytes
    → (rest : List ℕ) × (bytes ≡ front ++ rest) × NodeCovers (pieces_of more) rest
plain_first front more bytes plain covers =
    let w = then_pieces (map Plain (map Exact front)) (pieces_of more) bytes (subst (λ (p : List Piece). NodeCovers p bytes) (plain_pieces front more plain) covers) in
    (w.1, w.2 ∙ ap (λ (l : List ℕ). l ++ w.1) (exactly front w.0 w.3), w.4)

pub plain_onto : (front more rest : List ℕ) → IsPlain front → NodeCovers (pieces_of more) rest → NodeCovers (pieces_of (front ++ more)) (front ++ rest)
plain_onto front more rest plain covers =
    subst (λ (p : List Piece). NodeCovers p (front ++ rest)) (sym (plain_pieces front more plain))
    (pieces_then (map Plain (map Exact front)) (pieces_of more) front rest (itself front) covers)

-- a node that begins with such bytes, and one that does not
pub plain_then : (front more node rest : List ℕ) (answer : Bool) → IsPlain front → node ≡ front ++ rest → Tells answer (NodeCovers (pieces_of more) rest)
    → Tells answer (NodeCovers (pieces_of (front ++ more)) node)
plain_then front more node rest answer plain is tells = (
  λ yes. subst (λ (l : List ℕ). NodeCovers (pieces_of (front ++ more)) l) (sym is) (plain_onto front more rest plain (tells.0 yes)),
  λ covers.
      let w = plain_first front more node plain covers in
      tells.1 (subst (λ (l : List ℕ). NodeCovers (pieces_of more) l) (append_cancel_left front w.0 rest (sym w.1 ∙ is)) w.2),
)

pub plain_apart : (front more node : List ℕ) → IsPlain front → (take (length front) node ≡ front → ⊥) → Tells false (NodeCovers (pieces_of (front ++ more)) node)
plain_apart front more node plain apart =
    tells_no (λ covers. let w = plain_first front more node plain covers in apart (ap (take (length front)) w.1 ∙ take-append_seam front w.0))

-- a single star covers all
pub star_covers : (bytes : List ℕ) → NodeCovers (pieces_of (42 ∷ [])) bytes
star_covers bytes = (bytes, [], sym (append-nil bytes), tt, refl)

-- a list is a piece
pub list_reads : (members : List ℕ) → HasNone 46 members → HasNone 93 members → HasNone 123 members → Reads (91 ∷ (members ++ 93 ∷ [])) (Plain (OneOf (members_of members)) ∷ [])
list_reads members no_dot no_end no_braces =
    row_reads (91 ∷ (members ++ 93 ∷ [])) (OneOf (members_of members) ∷ [])
    (All-cons (λ x. (x == 46) ≡ false) 91 (members ++ 93 ∷ []) refl (All-push (λ x. (x == 46) ≡ false) members 93 no_dot refl))
    (All-cons (λ x. (x == 123) ≡ false) 91 (members ++ 93 ∷ []) refl (All-push (λ x. (x == 123) ≡ false) members 93 no_braces refl))
    (λ more. ap (row_after []) (append_assoc members (93 ∷ []) more) ∙ list_at [] members more no_end)

-- braces are a piece
pub braces_read : (inner : List ℕ) → HasNone 46 inner → HasNone 125 inner → Reads (123 ∷ (inner ++ 125 ∷ [])) (Braces (values_of inner) ∷ [])
braces_read inner no_dot no_end = (
  All-cons (λ x. (x == 46) ≡ false) 123 (inner ++ 125 ∷ []) refl (All-push (λ x. (x == 46) ≡ false) inner 125 no_dot refl),
  λ more. ap (λ (l : List ℕ). pieces_of (123 ∷ l)) (append_assoc inner (125 ∷ []) more) ∙ braces_at [] inner more (All-nil _) no_end,
)

-- what comes first in a path, in other words
pub first_alike : {R S : List ℕ → Type 0} (glob path : List ℕ) → ((bytes : List ℕ) → R bytes → S bytes) → FirstThen R glob path → FirstThen S glob path
first_alike glob path to (front, rest, is, none, covers, fits) = (front, rest, is, none, to front covers, fits)

one_piece : (piece : Piece) (bytes : List ℕ) → NodeCovers (piece ∷ []) bytes → PieceCovers piece bytes
one_piece piece bytes (front, rest, is, covers, none) =
    subst (PieceCovers piece) (sym (is ∙ ap (λ (l : List ℕ). front ++ l) none ∙ append-nil front)) covers

piece_alone : (piece : Piece) (bytes : List ℕ) → PieceCovers piece bytes → NodeCovers (piece ∷ []) bytes
piece_alone piece bytes covers = (bytes, [], sym (append-nil bytes), covers, refl)

pub first_piece : (front : List ℕ) (piece : Piece) (glob path : List ℕ) → Reads front (piece ∷ []) → FitsPath (front ++ glob) path → FirstThen (PieceCovers piece) glob path
first_piece front piece glob path reads fits = first_alike glob path (one_piece piece) (first_pieces front (piece ∷ []) glob path reads fits)

pub piece_first : (front : List ℕ) (piece : Piece) (glob path : List ℕ) → Reads front (piece ∷ []) → FirstThen (PieceCovers piece) glob path → FitsPath (front ++ glob) path
piece_first front piece glob path reads first = pieces_first front (piece ∷ []) glob path reads (first_alike glob path (piece_alone piece) first)

-- a byte that is no wildcard
pub byte_then : (b : ℕ) (glob path : List ℕ) → is_special b ≡ false → (b == 46) ≡ false → (FitsPath (b ∷ glob) path → FirstThen (IsByte b) glob path) × (FirstThen (IsByte b) glob path → FitsPath (b ∷ glob) path)
byte_then b glob path plain no_dot =
    let o = ordinary_of b plain in
    let reads : Reads (b ∷ []) (Plain (Exact b) ∷ []) = rw (← exact_said b plain) (byte_reads b no_dot o.no_list o.no_braces) in
    (first_piece (b ∷ []) (Plain (Exact b)) glob path reads, piece_first (b ∷ []) (Plain (Exact b)) glob path reads)

-- a dot ends a node
dot_parts : (text : List ℕ) → nodes_of (46 ∷ text) ≡ [] ∷ nodes_of text
dot_parts text = slice_split-cons_yes is_dot 46 text refl

dot_byte : (glob : List ℕ) (x : ℕ) (path : List ℕ) (dot : Bool) → is_dot x ≡ dot → FitsPath (46 ∷ glob) (x ∷ path) → DotThen glob (x ∷ path)
dot_byte glob x path true dot fits = (
  path,
  ap (λ (b : ℕ). b ∷ path) (eqb-true x 46 dot),
  (moved (nodes_of (46 ∷ glob)) ([] ∷ nodes_of glob) (nodes_of (x ∷ path)) ([] ∷ nodes_of path) (dot_parts glob) (slice_split-cons_yes is_dot x path dot) fits).1,
)
dot_byte glob x path false dot fits =
    let next = first_node path in
    let onto : nodes_of (x ∷ path) ≡ (x ∷ next.0) ∷ next.1 = slice_split-cons_no is_dot x path dot ∙ ap (onto_first x) next.2 in
    let none : x ∷ next.0 ≡ [] = (moved (nodes_of (46 ∷ glob)) ([] ∷ nodes_of glob) (nodes_of (x ∷ path)) ((x ∷ next.0) ∷ next.1) (dot_parts glob) onto fits).0 in
    absurd cc

pub dot_then : (glob path : List ℕ) → FitsPath (46 ∷ glob) path → DotThen glob path
dot_then glob [] fits =
    absurd (none_fits (nodes_of glob) (nodes_never_none glob) (moved (nodes_of (46 ∷ glob)) ([] ∷ nodes_of glob) ([] ∷ []) ([] ∷ []) (dot_parts glob) refl fits).1)
dot_then glob (x ∷ path) fits = dot_byte glob x path (is_dot x) refl fits

pub then_dot : (glob path : List ℕ) → DotThen glob path → FitsPath (46 ∷ glob) path
then_dot glob path (rest, is, fits) =
    moved ([] ∷ nodes_of glob) (nodes_of (46 ∷ glob)) ([] ∷ nodes_of rest) (nodes_of path) (sym (dot_parts glob)) (sym (ap nodes_of is ∙ dot_parts rest)) (refl, fits)

-- no text at all
end_byte : (x : ℕ) (path : List ℕ) (dot : Bool) → is_dot x ≡ dot → FitsPath [] (x ∷ path) → ⊥
end_byte x path true dot fits =
    fits_none (nodes_of path) (nodes_never_none path) (moved ([] ∷ []) ([] ∷ []) (nodes_of (x ∷ path)) ([] ∷ nodes_of path) refl (slice_split-cons_yes is_dot x path dot) fits).1
end_byte x path false dot fits =
    let next = first_node path in
    let onto : nodes_of (x ∷ path) ≡ (x ∷ next.0) ∷ next.1 = slice_split-cons_no is_dot x path dot ∙ ap (onto_first x) next.2 in
    let none : x ∷ next.0 ≡ [] = (moved ([] ∷ []) ([] ∷ []) (nodes_of (x ∷ path)) ((x ∷ next.0) ∷ next.1) refl onto fits).0 in
    cc

pub end_fits : (path : List ℕ) → FitsPath [] path → path ≡ []
end_fits [] fits = refl
end_fits (x ∷ path) fits = absurd (end_byte x path (is_dot x) refl fits)

pub fits_end : (path : List ℕ) → path ≡ [] → FitsPath [] path
fits_end path is = rw is (refl, tt)

-- what a glob fits begins with the glob's own bytes up to the first special one
begins_with_byte : (b : ℕ) (front more path : List ℕ) (dot : Bool) → is_dot b ≡ dot → is_special b ≡ false → ((rest : List ℕ) → FitsPath (front ++ more) rest → BeginsWith front rest)
    → FitsPath (b ∷ (front ++ more)) path → BeginsWith (b ∷ front) path
begins_with_byte b front more path true dot plain others fits =
    let same : b ≡ 46 = eqb-true b 46 dot in
    let first = dot_then (front ++ more) path (subst (λ (x : ℕ). FitsPath (x ∷ (front ++ more)) path) same fits) in
    let w = others first.0 first.2 in
    (w.0, first.1 ∙ cc (same, w.1))
begins_with_byte b front more path false dot plain others fits =
    let first = (byte_then b (front ++ more) path plain dot).0 fits in
    let w = others first.1 first.5 in
    (w.0, first.2 ∙ cc (first.4, w.1))

pub begins : (front more path : List ℕ) → IsPlain front → FitsPath (front ++ more) path → BeginsWith front path
begins [] more path plain fits = (path, refl)
begins (b ∷ front) more path plain fits =
    begins_with_byte b front more path (is_dot b) refl (All-head (λ x. is_special x ≡ false) b front plain)
    (λ rest. begins front more rest (All-tail (λ x. is_special x ≡ false) b front plain)) fits

pub front_begins : (text path : List ℕ) → FitsPath text path → BeginsWith (literal_front text) path
front_begins text path fits =
    let at = position_or_len is_special text in
    let plain : IsPlain (take at text) =
    All-from_get_or (λ b. is_special b ≡ false) (take at text) 0 (λ k within.
    let near : k < at = omega (arith, length-take at text) in
    rw (get_or-take at text k 0 near) (fails_before_first is_special text k 0 near)) in
    begins (take at text) (drop at text) path plain (subst (λ (l : List ℕ). FitsPath l path) (sym (take-append-drop at text)) fits)

-- values that are closed
pub none_closed : IsClosed []
none_closed = record { no_dot = All-nil _; no_braces = All-nil _; reads = λ more. refl }

pub byte_closed : (b : ℕ) → (b == 46) ≡ false → (b == 91) ≡ false → (b == 123) ≡ false → IsClosed (b ∷ [])
byte_closed b no_dot no_list no_braces = record {
  no_dot = All-cons (λ x. (x == 46) ≡ false) b [] no_dot (All-nil _);
  no_braces = All-cons (λ x. (x == 123) ≡ false) b [] no_braces (All-nil _);
  reads = λ more. rw no_list refl;
}

pub list_closed : (members : List ℕ) → HasNone 46 members → HasNone 93 members → HasNone 123 members → IsClosed (91 ∷ (members ++ 93 ∷ []))
list_closed members no_dot no_end no_braces = record {
  no_dot = All-cons (λ x. (x == 46) ≡ false) 91 (members ++ 93 ∷ []) refl (All-push (λ x. (x == 46) ≡ false) members 93 no_dot refl);
  no_braces = All-cons (λ x. (x == 123) ≡ false) 91 (members ++ 93 ∷ []) refl (All-push (λ x. (x == 123) ≡ false) members 93 no_braces refl);
  reads = λ more. ap (row_after []) (append_assoc members (93 ∷ []) more) ∙ list_at [] members more no_end
      ∙ ap (λ (l : List Simple). l ++ row_of more) (sym (list_at [] members [] no_end));
}

pub both_closed : (first value : List ℕ) → IsClosed first → IsClosed value → IsClosed (first ++ value)
both_closed first value one other = record {
  no_dot = All-append (λ x. (x == 46) ≡ false) first value one.no_dot other.no_dot;
  no_braces = All-append (λ x. (x == 123) ≡ false) first value one.no_braces other.no_braces;
  reads = λ more. ap row_of (append_assoc first value more) ∙ one.reads (value ++ more) ∙ ap (λ (l : List Simple). row_of first ++ l) (other.reads more)
      ∙ sym (append_assoc (row_of first) (row_of value) (row_of more)) ∙ ap (λ (l : List Simple). l ++ row_of more) (sym (one.reads value));
}

-- braces stand for their values
value_reads : (value : List ℕ) → IsClosed value → Reads value (map Plain (row_of value))
value_reads value closed = row_reads value (row_of value) closed.no_dot closed.no_braces closed.reads

some_fits : (values : List (List ℕ)) (glob path : List ℕ) → All IsClosed values → FirstThen (SomeCovers (map row_of values)) glob path → FitsSome values glob path
some_fits [] glob path closed (front, rest, is, none, covers, fits) = absurd covers
some_fits (value ∷ values) glob path closed (front, rest, is, none, inl covers, fits) =
    inl (pieces_first value (map Plain (row_of value)) glob path (value_reads value (All-head IsClosed value values closed)) (front, rest, is, none, row_alone (row_of value) front covers, fits))
some_fits (value ∷ values) glob path closed (front, rest, is, none, inr covers, fits) =
    inr (some_fits values glob path (All-tail IsClosed value values closed) (front, rest, is, none, covers, fits))

fits_some : (values : List (List ℕ)) (glob path : List ℕ) → All IsClosed values → FitsSome values glob path → FirstThen (SomeCovers (map row_of values)) glob path
fits_some [] glob path closed fits = absurd fits
fits_some (value ∷ values) glob path closed (inl fits) =
    let w = first_pieces value (map Plain (row_of value)) glob path (value_reads value (All-head IsClosed value values closed)) fits in
    (w.0, w.1, w.2, w.3, inl (alone_row (row_of value) w.0 w.4), w.5)
fits_some (value ∷ values) glob path closed (inr fits) =
    let w = fits_some values glob path (All-tail IsClosed value values closed) fits in
    (w.0, w.1, w.2, w.3, inr w.4, w.5)

pub braces_then : (inner glob path : List ℕ) → HasNone 46 inner → HasNone 125 inner → All IsClosed (slice_split is_comma inner)
    → (FitsPath (123 ∷ (inner ++ 125 ∷ glob)) path → FitsSome (slice_split is_comma inner) glob path) × (FitsSome (slice_split is_comma inner) glob path → FitsPath (123 ∷ (inner ++ 125 ∷ glob)) path)
braces_then inner glob path no_dot no_end closed =
    let values = slice_split is_comma inner in
    let reads = braces_read inner no_dot no_end in
    let onto = append_assoc inner (125 ∷ []) glob in (
      λ fits. some_fits values glob path closed
          (first_piece (123 ∷ (inner ++ 125 ∷ [])) (Braces (values_of inner)) glob path reads (subst (λ (l : List ℕ). FitsPath (123 ∷ l) path) (sym onto) fits)),
      λ some. subst (λ (l : List ℕ). FitsPath (123 ∷ l) path) onto
          (piece_first (123 ∷ (inner ++ 125 ∷ [])) (Braces (values_of inner)) glob path reads (fits_some values glob path closed some)),
    )

pub list_then : (members glob path : List ℕ) → HasNone 46 members → HasNone 93 members → HasNone 123 members
    → (FitsPath (91 ∷ (members ++ 93 ∷ glob)) path → FirstThen (IsMember members) glob path) × (FirstThen (IsMember members) glob path → FitsPath (91 ∷ (members ++ 93 ∷ glob)) path)
list_then members glob path no_dot no_end no_braces =
    let reads = list_reads members no_dot no_end no_braces in
    let onto = append_assoc members (93 ∷ []) glob in (
      λ fits. first_piece (91 ∷ (members ++ 93 ∷ [])) (Plain (OneOf (members_of members))) glob path reads (subst (λ (l : List ℕ). FitsPath (91 ∷ l) path) (sym onto) fits),
      λ first. subst (λ (l : List ℕ). FitsPath (91 ∷ l) path) onto (piece_first (91 ∷ (members ++ 93 ∷ [])) (Plain (OneOf (members_of members))) glob path reads first),
    )
