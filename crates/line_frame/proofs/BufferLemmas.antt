-- Lemmas on what a buffer holds as lines, for the framer's own calls.
use Rattle.std.proofs.Common.{◌≡◌, ℕ, ◌+◌, ◌-◌, ◌<◌, ◌≤◌, min, false, List, [], ◌∷◌, ◌++◌, length, take, drop, get_or, Option, slice_range, sym, ap, ap₂, ◌∙◌, subst, refl, arith, append-nil, append_assoc, length-append, length-take, length-drop, take-append-drop, ⊎_elim, eqb-true}
use Rattle.std.specs.Option.{ForSome}
use Rattle.std.proofs.lemmas.Bool.{cases_lt, false_from_ne_true}
use Rattle.std.proofs.lemmas.List.{take_all, take-append-le, drop-append-le, drop-take, drop-drop, drop_more, take_more, take-take, get_or-take}
use Rattle.std.proofs.Math.Seq.{drop-append-add, take-append-add}
use Rattle.std.proofs.lemmas.List.Elements.{All-append, All-take, All-from_get_or}
use Rattle.memchr.specs.Find.{NoneBefore, Nowhere, Passes, is_byte}
use Rattle.line_frame.specs.Lines.{Line, is_lf, line_of, lines, most_line_bytes, open_text}
use Rattle.line_frame.specs.Held.{HasNoLf, IsLaidOut, IsLastLf, framing_of}
use Rattle.line_frame.specs.Calls.{Feeds}
use Rattle.line_frame.proofs.LineLemmas.{line_of-long, lines-append, lines-line, lines-open, open_text-append, open_text-clean, open_text-line, open_text-open}
use Rattle.line_frame.proofs.FramingLemmas.{Feeds-from_open}

-- what was there stays where bytes are put behind
slice_range-append : (xs ys : List ℕ) (from to : ℕ) → from ≤ to → to ≤ length xs → slice_range (xs ++ ys) from to ≡ slice_range xs from to
slice_range-append xs ys from to ordered within =
    ap (take (to - from)) (drop-append-le from xs ys (omega arith)) ∙ take-append-le (to - from) (drop from xs) ys (omega (arith, length-drop from xs))

readable-append : (xs ys : List ℕ) (current : Option (ℕ × ℕ)) → ForSome current (λ place. (place.0 ≤ place.1) × (place.1 ≤ length xs)) → ForSome current (λ place. (place.0 ≤ place.1) × (place.1 ≤ length (xs ++ ys)))
readable-append xs ys current readable = λ place is. let r = readable place is in (r.0, omega (arith, r.1, length-append xs ys))

clean-append : (xs ys : List ℕ) → HasNoLf xs → HasNoLf ys → HasNoLf (xs ++ ys)
clean-append xs ys clean clean' = All-append (λ b. is_lf b ≡ false) xs ys clean clean'

clean-take : (n : ℕ) (xs : List ℕ) → HasNoLf xs → HasNoLf (take n xs)
clean-take n xs clean = All-take (λ b. is_lf b ≡ false) n xs clean

-- what is kept of an open line stands for it
line_of-kept : (room : ℕ) (text more : List ℕ) → length text ≤ most_line_bytes + 1 → room ≡ min (length more) (most_line_bytes + 1 - length text) → line_of (text ++ take room more) ≡ line_of (text ++ more)
line_of-kept room text more short is =
    ⊎_elim
    (λ cut.
    let long : length (text ++ take room more) ≡ most_line_bytes + 1 = omega (arith, length-append text (take room more), length-take room more) in
    line_of-long (text ++ take room more) (omega arith) ∙ sym (line_of-long (text ++ more) (omega (arith, length-append text more))))
    (λ whole. ap (λ (l : List ℕ). line_of (text ++ l)) (take_all room more whole))
    (cases_lt room (length more))

-- where the kept front of a piece that has no LF was put behind the buffer
behind : (buffer piece after : List ℕ) (open_start kept : ℕ) → open_start ≤ length buffer → after ≡ buffer ++ take kept piece → drop open_start after ≡ drop open_start buffer ++ take kept piece
behind buffer piece after open_start kept within is = ap (drop open_start) is ∙ drop-append-le open_start buffer (take kept piece) within

before : (buffer piece after : List ℕ) (at open_start kept : ℕ) → at ≤ open_start → open_start ≤ length buffer → after ≡ buffer ++ take kept piece → slice_range after at open_start ≡ slice_range buffer at open_start
before buffer piece after at open_start kept ordered within is =
    ap (λ (l : List ℕ). slice_range l at open_start) is ∙ slice_range-append buffer (take kept piece) at open_start ordered within

pub IsLaidOut-take_open : (buffer piece after : List ℕ) (at open_start kept : ℕ) (current : Option (ℕ × ℕ)) → IsLaidOut buffer at open_start current → HasNoLf piece
    → kept ≡ min (length piece) (most_line_bytes + 1 - (length buffer - open_start)) → after ≡ buffer ++ take kept piece → IsLaidOut after at open_start current
IsLaidOut-take_open buffer piece after at open_start kept current held clean room is =
    let len : length after ≡ length buffer + kept = ap length is ∙ omega (arith, length-append buffer (take kept piece), length-take kept piece) in
    record {
      ordered = held.ordered;
      within = omega (arith, held.within);
      whole = ap open_text (before buffer piece after at open_start kept held.ordered held.within is) ∙ held.whole;
      unended = subst HasNoLf (sym (behind buffer piece after open_start kept held.within is)) (clean-append (drop open_start buffer) (take kept piece) held.unended (clean-take kept piece clean));
      short = omega (arith, held.short, held.within);
      readable = subst (λ (l : List ℕ). ForSome current (λ place. (place.0 ≤ place.1) × (place.1 ≤ length l))) (sym is) (readable-append buffer (take kept piece) current held.readable);
      readable_line = held.readable_line;
    }

pub Feeds-take_open : (buffer piece after : List ℕ) (at open_start kept : ℕ) (current : Option (ℕ × ℕ)) → IsLaidOut buffer at open_start current → HasNoLf piece
    → kept ≡ min (length piece) (most_line_bytes + 1 - (length buffer - open_start)) → after ≡ buffer ++ take kept piece
    → Feeds (framing_of buffer at open_start current) piece (framing_of after at open_start current)
Feeds-take_open buffer piece after at open_start kept current held clean room is =
    let text = drop open_start buffer in
    let all_clean = clean-append text piece held.unended clean in
    Feeds-from_open (framing_of buffer at open_start current) (framing_of after at open_start current) text piece held.unended refl
    (ap lines (before buffer piece after at open_start kept held.ordered held.within is) ∙ sym (append-nil (lines (slice_range buffer at open_start)))
    ∙ sym (ap (λ (l : List Line). lines (slice_range buffer at open_start) ++ l) (lines-open (text ++ piece) all_clean)))
    (ap line_of (behind buffer piece after open_start kept held.within is)
    ∙ line_of-kept kept text piece (omega (arith, length-drop open_start buffer, held.short, held.within)) (room ∙ ap (λ (n : ℕ). min (length piece) (most_line_bytes + 1 - n)) (sym (length-drop open_start buffer)))
    ∙ sym (ap line_of (open_text-open (text ++ piece) all_clean)))

-- bytes up to an LF are whole lines
open_text-ended : (bytes : List ℕ) → open_text (bytes ++ 10 ∷ []) ≡ []
open_text-ended bytes = open_text-append (10 ∷ []) bytes ∙ open_text-line (open_text bytes) [] (open_text-clean bytes)

-- a piece up to its last LF
up_to_lf : (piece : List ℕ) (last : ℕ) → IsLastLf piece last → take (last + 1) piece ≡ take last piece ++ 10 ∷ []
up_to_lf piece last lf = take_more piece last 0 lf.place ∙ ap (λ (b : ℕ). take last piece ++ b ∷ []) lf.lf

open_text-up_to_lf : (text piece : List ℕ) (last : ℕ) → IsLastLf piece last → open_text (text ++ take (last + 1) piece) ≡ []
open_text-up_to_lf text piece last lf =
    ap (λ (l : List ℕ). open_text (text ++ l)) (up_to_lf piece last lf) ∙ ap open_text (sym (append_assoc text (take last piece) (10 ∷ []))) ∙ open_text-ended (text ++ take last piece)

-- the lines of an open line and a piece, and what is open behind them
parted : (text piece : List ℕ) (last : ℕ) → text ++ piece ≡ (text ++ take (last + 1) piece) ++ drop (last + 1) piece
parted text piece last = ap (λ (l : List ℕ). text ++ l) (sym (take-append-drop (last + 1) piece)) ∙ sym (append_assoc text (take (last + 1) piece) (drop (last + 1) piece))

lines-parted : (text piece : List ℕ) (last : ℕ) → IsLastLf piece last → lines (text ++ piece) ≡ lines (text ++ take (last + 1) piece)
lines-parted text piece last lf =
    ap lines (parted text piece last) ∙ lines-append (drop (last + 1) piece) (text ++ take (last + 1) piece)
    ∙ ap (λ (o : List ℕ). lines (text ++ take (last + 1) piece) ++ lines (o ++ drop (last + 1) piece)) (open_text-up_to_lf text piece last lf)
    ∙ ap (λ (l : List Line). lines (text ++ take (last + 1) piece) ++ l) (lines-open (drop (last + 1) piece) lf.later)
    ∙ append-nil (lines (text ++ take (last + 1) piece))

open_text-parted : (text piece : List ℕ) (last : ℕ) → IsLastLf piece last → open_text (text ++ piece) ≡ drop (last + 1) piece
open_text-parted text piece last lf =
    ap open_text (parted text piece last) ∙ open_text-append (drop (last + 1) piece) (text ++ take (last + 1) piece)
    ∙ ap (λ (o : List ℕ). open_text (o ++ drop (last + 1) piece)) (open_text-up_to_lf text piece last lf)
    ∙ open_text-open (drop (last + 1) piece) lf.later

-- the lines that wait once a piece up to its last LF was put behind, and what is open behind them
lines_before : (buffer piece after : List ℕ) (at open_start start last kept : ℕ) → at ≤ open_start → open_start ≤ length buffer → last < length piece → last < kept → kept ≤ length piece
    → after ≡ buffer ++ take kept piece → start ≡ length buffer + (last + 1)
    → slice_range after at start ≡ slice_range buffer at open_start ++ (drop open_start buffer ++ take (last + 1) piece)
lines_before buffer piece after at open_start start last kept ordered within place most few is begins =
    let there : drop at after ≡ drop at buffer ++ take kept piece = ap (drop at) is ∙ drop-append-le at buffer (take kept piece) (omega arith) in
    let len : start - at ≡ length (drop at buffer) + (last + 1) = omega (arith, length-drop at buffer) in
    let parts : drop at buffer ≡ slice_range buffer at open_start ++ drop open_start buffer =
    sym (take-append-drop (open_start - at) (drop at buffer))
    ∙ ap (λ (l : List ℕ). slice_range buffer at open_start ++ l) (drop-drop (open_start - at) at buffer ∙ ap (λ (n : ℕ). drop n buffer) (omega arith)) in
    ap₂ take len there ∙ take-append-add (drop at buffer) (take kept piece) (last + 1)
    ∙ ap (λ (l : List ℕ). drop at buffer ++ l) (take-take (last + 1) kept piece (omega arith))
    ∙ ap (λ (l : List ℕ). l ++ take (last + 1) piece) parts
    ∙ append_assoc (slice_range buffer at open_start) (drop open_start buffer) (take (last + 1) piece)

open_behind : (buffer piece after : List ℕ) (start last kept : ℕ) → last < kept → after ≡ buffer ++ take kept piece → start ≡ length buffer + (last + 1)
    → drop start after ≡ take (kept - (last + 1)) (drop (last + 1) piece)
open_behind buffer piece after start last kept most is begins =
    let len : kept ≡ last + 1 + (kept - (last + 1)) = omega arith in
    ap₂ drop begins is ∙ drop-append-add buffer (take kept piece) (last + 1) ∙ ap (λ (n : ℕ). drop (last + 1) (take n piece)) len ∙ drop-take (last + 1) (kept - (last + 1)) piece

-- a piece with an LF was put behind the buffer
pub IsLaidOut-take_lines : (buffer piece after : List ℕ) (at open_start start last kept : ℕ) (current : Option (ℕ × ℕ)) → IsLaidOut buffer at open_start current → IsLastLf piece last
    → kept ≡ min (length piece) (last + 1 + (most_line_bytes + 1)) → after ≡ buffer ++ take kept piece → start ≡ length after - (kept - (last + 1)) → IsLaidOut after at start current
IsLaidOut-take_lines buffer piece after at open_start start last kept current held lf room is begins =
    let len : length after ≡ length buffer + kept = ap length is ∙ omega (arith, length-append buffer (take kept piece), length-take kept piece) in
    let begins' : start ≡ length buffer + (last + 1) = omega (arith, lf.place) in
    record {
      ordered = omega (arith, held.ordered, held.within);
      within = omega (arith, lf.place);
      whole = ap open_text (lines_before buffer piece after at open_start start last kept held.ordered held.within lf.place (omega (arith, lf.place)) (omega arith) is begins'
          ∙ sym (append_assoc (slice_range buffer at open_start) (drop open_start buffer) (take (last + 1) piece)))
          ∙ open_text-up_to_lf (slice_range buffer at open_start ++ drop open_start buffer) piece last lf;
      unended = subst HasNoLf (sym (open_behind buffer piece after start last kept (omega (arith, lf.place)) is begins')) (clean-take (kept - (last + 1)) (drop (last + 1) piece) lf.later);
      short = omega (arith, lf.place);
      readable = subst (λ (l : List ℕ). ForSome current (λ place. (place.0 ≤ place.1) × (place.1 ≤ length l))) (sym is) (readable-append buffer (take kept piece) current held.readable);
      readable_line = held.readable_line;
    }

pub Feeds-take_lines : (buffer piece after : List ℕ) (at open_start start last kept : ℕ) (current : Option (ℕ × ℕ)) → IsLaidOut buffer at open_start current → IsLastLf piece last
    → kept ≡ min (length piece) (last + 1 + (most_line_bytes + 1)) → after ≡ buffer ++ take kept piece → start ≡ length after - (kept - (last + 1))
    → Feeds (framing_of buffer at open_start current) piece (framing_of after at start current)
Feeds-take_lines buffer piece after at open_start start last kept current held lf room is begins =
    let len : length after ≡ length buffer + kept = ap length is ∙ omega (arith, length-append buffer (take kept piece), length-take kept piece) in
    let begins' : start ≡ length buffer + (last + 1) = omega (arith, lf.place) in
    let text = drop open_start buffer in
    let later = drop (last + 1) piece in
    let wait = slice_range buffer at open_start in
    Feeds-from_open (framing_of buffer at open_start current) (framing_of after at start current) text piece held.unended refl
    (ap lines (lines_before buffer piece after at open_start start last kept held.ordered held.within lf.place (omega (arith, lf.place)) (omega arith) is begins')
    ∙ lines-append (text ++ take (last + 1) piece) wait
    ∙ ap (λ (o : List ℕ). lines wait ++ lines (o ++ (text ++ take (last + 1) piece))) held.whole
    ∙ ap (λ (l : List Line). lines wait ++ l) (sym (lines-parted text piece last lf)))
    (ap line_of (open_behind buffer piece after start last kept (omega (arith, lf.place)) is begins')
    ∙ line_of-kept (kept - (last + 1)) [] later (omega arith) (omega (arith, length-drop (last + 1) piece, lf.place))
    ∙ sym (ap line_of (open_text-parted text piece last lf)))

-- the first line of bytes in which the first LF stands at a place
first_line : (bytes : List ℕ) (len : ℕ) → NoneBefore (Passes (is_byte 10) bytes) 0 (length bytes) len × Passes (is_byte 10) bytes len
    → HasNoLf (take len bytes) × (bytes ≡ take len bytes ++ 10 ∷ drop (len + 1) bytes)
first_line bytes len first =
    let within : len < length bytes = first.0.high in (
      All-from_get_or (λ b. is_lf b ≡ false) (take len bytes) 0 (λ k in'.
          let below : k < len = omega (arith, length-take len bytes) in
          ap is_lf (get_or-take len bytes k 0 below) ∙ false_from_ne_true (is_lf (get_or bytes k 0)) (first.0.before k (omega arith) below)),
      sym (take-append-drop len bytes) ∙ ap (λ (l : List ℕ). take len bytes ++ l) (drop_more bytes len 0 within ∙ ap (λ (b : ℕ). b ∷ drop (len + 1) bytes) (eqb-true (get_or bytes len 0) 10 first.1)),
    )

-- where bytes that are whole lines have no LF, there are none
pub none_waiting : (bytes : List ℕ) → Nowhere (Passes (is_byte 10) bytes) 0 (length bytes) → open_text bytes ≡ [] → length bytes ≡ 0
none_waiting bytes nowhere whole =
    let clean : HasNoLf bytes = All-from_get_or (λ b. is_lf b ≡ false) bytes 0 (λ k in'. false_from_ne_true (is_lf (get_or bytes k 0)) (nowhere k (omega arith) in')) in
    ap length (sym (open_text-open bytes clean) ∙ whole)

-- the line that is handed out, and the lines behind it
front_of_range : (buffer : List ℕ) (at open_start len : ℕ) → len ≤ open_start - at → take len (slice_range buffer at open_start) ≡ slice_range buffer at (at + len)
front_of_range buffer at open_start len within = take-take len (open_start - at) (drop at buffer) within ∙ ap (λ (n : ℕ). take n (drop at buffer)) (omega arith)

rest_of_range : (buffer : List ℕ) (at open_start len : ℕ) → len < open_start - at → drop (len + 1) (slice_range buffer at open_start) ≡ slice_range buffer (at + len + 1) open_start
rest_of_range buffer at open_start len within =
    let apart : open_start - at ≡ len + 1 + (open_start - (at + len + 1)) = omega arith in
    ap (λ (n : ℕ). drop (len + 1) (take n (drop at buffer))) apart ∙ drop-take (len + 1) (open_start - (at + len + 1)) (drop at buffer)
    ∙ ap (take (open_start - (at + len + 1))) (drop-drop (len + 1) at buffer ∙ ap (λ (n : ℕ). drop n buffer) (omega arith))

pub length-range : (buffer : List ℕ) (at open_start : ℕ) → at ≤ open_start → open_start ≤ length buffer → length (slice_range buffer at open_start) ≡ open_start - at
length-range buffer at open_start ordered within = omega (arith, length-take (open_start - at) (drop at buffer), length-drop at buffer)

pub IsLaidOut-next : (buffer : List ℕ) (at open_start len : ℕ) (old current : Option (ℕ × ℕ)) → IsLaidOut buffer at open_start old
    → NoneBefore (Passes (is_byte 10) (slice_range buffer at open_start)) 0 (length (slice_range buffer at open_start)) len × Passes (is_byte 10) (slice_range buffer at open_start) len
    → ForSome current (λ place. (place.0 ≤ place.1) × (place.1 ≤ at + len)) → ForSome current (λ place. place.1 ≤ place.0 + most_line_bytes)
    → IsLaidOut buffer (at + len + 1) open_start current
IsLaidOut-next buffer at open_start len old current held first readable readable_line =
    let within : len < open_start - at = subst (λ (n : ℕ). len < n) (length-range buffer at open_start held.ordered held.within) first.0.high in
    let line = first_line (slice_range buffer at open_start) len first in
    record {
      ordered = omega arith;
      within = held.within;
      whole = ap open_text (sym (rest_of_range buffer at open_start len within)) ∙ sym (open_text-line (take len (slice_range buffer at open_start)) (drop (len + 1) (slice_range buffer at open_start)) line.0)
          ∙ sym (ap open_text line.1) ∙ held.whole;
      unended = held.unended;
      short = held.short;
      readable = λ place is. let r = readable place is in (r.0, omega (arith, r.1, held.within));
      readable_line = readable_line;
    }

pub lines-next : (buffer : List ℕ) (at open_start len : ℕ) → at ≤ open_start → open_start ≤ length buffer
    → NoneBefore (Passes (is_byte 10) (slice_range buffer at open_start)) 0 (length (slice_range buffer at open_start)) len × Passes (is_byte 10) (slice_range buffer at open_start) len
    → (lines (slice_range buffer at open_start) ≡ line_of (slice_range buffer at (at + len)) ∷ lines (slice_range buffer (at + len + 1) open_start)) × (length (slice_range buffer at (at + len)) ≡ len)
lines-next buffer at open_start len ordered within first =
    let inside : len < open_start - at = subst (λ (n : ℕ). len < n) (length-range buffer at open_start ordered within) first.0.high in
    let line = first_line (slice_range buffer at open_start) len first in (
      ap lines line.1 ∙ lines-line (take len (slice_range buffer at open_start)) (drop (len + 1) (slice_range buffer at open_start)) line.0
          ∙ ap₂ (λ (text rest : List ℕ). line_of text ∷ lines rest) (front_of_range buffer at open_start len (omega arith)) (rest_of_range buffer at open_start len inside),
      length-range buffer at (at + len) (omega arith) (omega arith) ∙ omega arith,
    )
