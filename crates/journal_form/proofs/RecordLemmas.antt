-- The laws of heads and records: what is read was written so, and what was written is read again.
use Rattle.std.proofs.Common.{◌≡◌, ℕ, ℤ, ◌^◌, ◌<◌, Bool, true, false, cond, eqb, List, [], ◌∷◌, ◌++◌, length, take, ◌-◌, Option, Some, None, refl, sym, ap, subst, ◌∙◌, append_assoc, arith, inl, inr}
use Rattle.std.specs.Prelude.{IfSome}
use Rattle.std.proofs.lemmas.List.{length-append, take_at}
use Rattle.std.specs.Int.{w16, w32, w64, to_be_bytes}
use Rattle.std.proofs.lemmas.Bool.{eqb-true}
use Rattle.carbon_history.specs.declared.entry.Entry.TheVariants.{Put, Drain, Ask, Fault}
use Rattle.carbon_history.specs.declared.entry.PutEnd.{PutEnd}
use Rattle.fixed_num.specs.Milli.{milli_bytes}
use Rattle.journal_form.specs.Form.{HeadValue, ReplyValue, RecordValue, Entered, Replied, FitsHead, FitsReply, FitsPut, FitsDrain, FitsAsk, FitsRecord, ask_bytes, drain_bytes, end_byte, fault_bytes, head_bytes, put_bytes, record_bytes, reply_bytes, text_bytes}
use Rattle.journal_form.specs.Parts.{HasLegalRecord}
use Rattle.journal_form.specs.Read.{◌>>=◌, ask_at, byte_at, drain_at, end_at, fault_at, files_at, head_at, head_in, kind_at, limit_at, mark, measured, number_at, path_at, put_at, record_at, record_in, reply_at, text_at, value_at}
use Rattle.journal_form.proofs.FieldLemmas.{Takes, IsBytes, Takes-then, bind_some, chosen, some_is, wide32, wide64, number_takes, number_again, byte_takes, text_takes, text_again, path_takes, path_again, value_takes, value_again, end_takes, end_again}

-- ---- what is read was written so

-- what stands behind a kind and a pass is a record with both before it
record IsRead (kind pass : ℕ) (bytes : List ℕ) (x : RecordValue × List ℕ) : Type 0 where
  pub whole : kind ∷ (to_be_bytes w32 pass ++ bytes) ≡ record_bytes x.0 ++ x.1
  pub fits_record : FitsRecord x.0

is_read : (kind pass : ℕ) (bytes : List ℕ) (x y : RecordValue × List ℕ) → Some x ≡ Some y → IsRead kind pass bytes x → IsRead kind pass bytes y
is_read kind pass bytes x y e read = subst (IsRead kind pass bytes) (some_is x y e) read

with_front : (kind pass : ℕ) (bytes text rest : List ℕ) → Takes bytes text rest → kind ∷ (to_be_bytes w32 pass ++ bytes) ≡ (kind ∷ (to_be_bytes w32 pass ++ text)) ++ rest
with_front kind pass bytes text rest taken = ap (λ (t : List ℕ). kind ∷ (to_be_bytes w32 pass ++ t)) taken.parts

put_read : (pass : ℕ) (bytes : List ℕ) (x : RecordValue × List ℕ) → IsBytes bytes → pass < 2 ^ 32 → put_at pass bytes ≡ Some x → IsRead 1 pass bytes x
unfolding put_at put_bytes
put_read pass bytes x fits small e =
    let a = bind_some (path_at bytes) (λ path. number_at w32 path.1 >>= λ time. value_at time.1 >>= λ value. end_at value.1 >>= λ end. Some (Entered (Put pass path.0 time.0 value.0 end.0), end.1)) x e in
    let b = bind_some (number_at w32 a.0.1) (λ time. value_at time.1 >>= λ value. end_at value.1 >>= λ end. Some (Entered (Put pass a.0.0 time.0 value.0 end.0), end.1)) x a.2 in
    let d = bind_some (value_at b.0.1) (λ value. end_at value.1 >>= λ end. Some (Entered (Put pass a.0.0 b.0.0 value.0 end.0), end.1)) x b.2 in
    let f = bind_some (end_at d.0.1) (λ end. Some (Entered (Put pass a.0.0 b.0.0 d.0.0 end.0), end.1)) x d.2 in
    let ta = path_takes bytes a.0 fits a.1 in
    let tb = number_takes w32 (2 ^ 32) wide32 a.0.1 b.0 ta.0.rest_fits b.1 in
    let td = value_takes b.0.1 d.0 tb.0.rest_fits d.1 in
    let tf = end_takes d.0.1 f.0 td.0.rest_fits f.1 in
    let path = a.0.0 in
    let path_text = to_be_bytes w16 (length path) ++ path in
    let value_text = milli_bytes d.0.0 ++ end_byte f.0.0 ∷ [] in
    let time_text = to_be_bytes w32 b.0.0 ++ value_text in
    let back = Takes-then b.0.1 (milli_bytes d.0.0) d.0.1 (end_byte f.0.0 ∷ []) f.0.1 td.0 tf in
    let rest = Takes-then a.0.1 (to_be_bytes w32 b.0.0) b.0.1 value_text f.0.1 tb.0 back in
    let all = Takes-then bytes path_text a.0.1 time_text f.0.1 ta.0 rest in
    is_read 1 pass bytes (Entered (Put pass path b.0.0 d.0.0 f.0.0), f.0.1) x f.2
    (record { whole = with_front 1 pass bytes (path_text ++ time_text) f.0.1 all; fits_record = record { pass_fits = small; legal = ta.1; time_fits = tb.1; value_fits = td.1 } })

drain_read : (pass : ℕ) (bytes : List ℕ) (x : RecordValue × List ℕ) → IsBytes bytes → pass < 2 ^ 32 → drain_at pass bytes ≡ Some x → IsRead 2 pass bytes x
unfolding drain_at drain_bytes
drain_read pass bytes x fits small e =
    let a = bind_some (path_at bytes) (λ path. number_at w64 path.1 >>= λ now. Some (Entered (Drain pass path.0 now.0), now.1)) x e in
    let b = bind_some (number_at w64 a.0.1) (λ now. Some (Entered (Drain pass a.0.0 now.0), now.1)) x a.2 in
    let ta = path_takes bytes a.0 fits a.1 in
    let tb = number_takes w64 (2 ^ 64) wide64 a.0.1 b.0 ta.0.rest_fits b.1 in
    let path = a.0.0 in
    let path_text = to_be_bytes w16 (length path) ++ path in
    let all = Takes-then bytes path_text a.0.1 (to_be_bytes w64 b.0.0) b.0.1 ta.0 tb.0 in
    is_read 2 pass bytes (Entered (Drain pass path b.0.0), b.0.1) x b.2
    (record { whole = with_front 2 pass bytes (path_text ++ to_be_bytes w64 b.0.0) b.0.1 all; fits_record = record { pass_fits = small; legal = ta.1; now_fits = tb.1 } })

ask_read : (pass : ℕ) (bytes : List ℕ) (x : RecordValue × List ℕ) → IsBytes bytes → pass < 2 ^ 32 → ask_at pass bytes ≡ Some x → IsRead 3 pass bytes x
unfolding ask_at ask_bytes
ask_read pass bytes x fits small e =
    let a = bind_some (number_at w64 bytes) (λ number. number_at w32 number.1 >>= λ try. number_at w64 try.1 >>= λ now. Some (Entered (Ask pass number.0 try.0 now.0), now.1)) x e in
    let b = bind_some (number_at w32 a.0.1) (λ try. number_at w64 try.1 >>= λ now. Some (Entered (Ask pass a.0.0 try.0 now.0), now.1)) x a.2 in
    let d = bind_some (number_at w64 b.0.1) (λ now. Some (Entered (Ask pass a.0.0 b.0.0 now.0), now.1)) x b.2 in
    let ta = number_takes w64 (2 ^ 64) wide64 bytes a.0 fits a.1 in
    let tb = number_takes w32 (2 ^ 32) wide32 a.0.1 b.0 ta.0.rest_fits b.1 in
    let td = number_takes w64 (2 ^ 64) wide64 b.0.1 d.0 tb.0.rest_fits d.1 in
    let try_text = to_be_bytes w32 b.0.0 ++ to_be_bytes w64 d.0.0 in
    let rest = Takes-then a.0.1 (to_be_bytes w32 b.0.0) b.0.1 (to_be_bytes w64 d.0.0) d.0.1 tb.0 td.0 in
    let all = Takes-then bytes (to_be_bytes w64 a.0.0) a.0.1 try_text d.0.1 ta.0 rest in
    is_read 3 pass bytes (Entered (Ask pass a.0.0 b.0.0 d.0.0), d.0.1) x d.2
    (record { whole = with_front 3 pass bytes (to_be_bytes w64 a.0.0 ++ try_text) d.0.1 all; fits_record = record { pass_fits = small; number_fits = ta.1; try_fits = tb.1; now_fits = td.1 } })

fault_read : (pass : ℕ) (bytes : List ℕ) (x : RecordValue × List ℕ) → IsBytes bytes → pass < 2 ^ 32 → fault_at pass bytes ≡ Some x → IsRead 4 pass bytes x
unfolding fault_at fault_bytes
fault_read pass bytes x fits small e =
    let a = bind_some (number_at w32 bytes) (λ class. Some (Entered (Fault pass class.0), class.1)) x e in
    let ta = number_takes w32 (2 ^ 32) wide32 bytes a.0 fits a.1 in
    is_read 4 pass bytes (Entered (Fault pass a.0.0), a.0.1) x a.2
    (record { whole = with_front 4 pass bytes (to_be_bytes w32 a.0.0) a.0.1 ta.0; fits_record = (small, ta.1) })

reply_read : (pass : ℕ) (bytes : List ℕ) (x : RecordValue × List ℕ) → IsBytes bytes → pass < 2 ^ 32 → reply_at pass bytes ≡ Some x → IsRead 5 pass bytes x
unfolding reply_at reply_bytes
reply_read pass bytes x fits small e =
    let a = bind_some (number_at w64 bytes) (λ number. text_at number.1 >>= λ query. text_at query.1 >>= λ body. text_at body.1 >>= λ text. Some (Replied (record { pass = pass; number = number.0; query = query.0; body = body.0; text = text.0 }), text.1)) x e in
    let b = bind_some (text_at a.0.1) (λ query. text_at query.1 >>= λ body. text_at body.1 >>= λ text. Some (Replied (record { pass = pass; number = a.0.0; query = query.0; body = body.0; text = text.0 }), text.1)) x a.2 in
    let d = bind_some (text_at b.0.1) (λ body. text_at body.1 >>= λ text. Some (Replied (record { pass = pass; number = a.0.0; query = b.0.0; body = body.0; text = text.0 }), text.1)) x b.2 in
    let f = bind_some (text_at d.0.1) (λ text. Some (Replied (record { pass = pass; number = a.0.0; query = b.0.0; body = d.0.0; text = text.0 }), text.1)) x d.2 in
    let ta = number_takes w64 (2 ^ 64) wide64 bytes a.0 fits a.1 in
    let tb = text_takes a.0.1 b.0 ta.0.rest_fits b.1 in
    let td = text_takes b.0.1 d.0 tb.0.rest_fits d.1 in
    let tf = text_takes d.0.1 f.0 td.0.rest_fits f.1 in
    let back_text = text_bytes d.0.0 ++ text_bytes f.0.0 in
    let query_text = text_bytes b.0.0 ++ back_text in
    let back = Takes-then b.0.1 (text_bytes d.0.0) d.0.1 (text_bytes f.0.0) f.0.1 td.0 tf.0 in
    let rest = Takes-then a.0.1 (text_bytes b.0.0) b.0.1 back_text f.0.1 tb.0 back in
    let all = Takes-then bytes (to_be_bytes w64 a.0.0) a.0.1 query_text f.0.1 ta.0 rest in
    is_read 5 pass bytes (Replied (record { pass = pass; number = a.0.0; query = b.0.0; body = d.0.0; text = f.0.0 }), f.0.1) x f.2
    (record { whole = with_front 5 pass bytes (to_be_bytes w64 a.0.0 ++ query_text) f.0.1 all; fits_record = record { pass = small; number = ta.1; query = tb.1; body = td.1; text = tf.1 } })

is_kind : (kind n pass : ℕ) (bytes : List ℕ) (x : RecordValue × List ℕ) → eqb kind n ≡ true → IsRead n pass bytes x → IsRead kind pass bytes x
is_kind kind n pass bytes x same read = subst (λ (k : ℕ). IsRead k pass bytes x) (sym (eqb-true _ _ same)) read

passed : {A : Type 0} (b : Bool) (o : Option A) (y : A) → cond b o None ≡ Some y → (b ≡ true) × (o ≡ Some y)
passed true o y e = (refl, e)
passed false o y e = absurd cc

kind_read : (kind pass : ℕ) (bytes : List ℕ) (x : RecordValue × List ℕ) → IsBytes bytes → pass < 2 ^ 32 → kind_at kind pass bytes ≡ Some x → IsRead kind pass bytes x
unfolding kind_at
kind_read kind pass bytes x fits small e =
    elim (chosen (eqb kind 1) _ _ x e) [
      | inl h ↦ is_kind kind 1 pass bytes x h.0 (put_read pass bytes x fits small h.1)
      | inr h ↦ elim (chosen (eqb kind 2) _ _ x h.1) [
        | inl k ↦ is_kind kind 2 pass bytes x k.0 (drain_read pass bytes x fits small k.1)
        | inr k ↦ elim (chosen (eqb kind 3) _ _ x k.1) [
          | inl l ↦ is_kind kind 3 pass bytes x l.0 (ask_read pass bytes x fits small l.1)
          | inr l ↦ elim (chosen (eqb kind 4) _ _ x l.1) [
            | inl m ↦ is_kind kind 4 pass bytes x m.0 (fault_read pass bytes x fits small m.1)
            | inr m ↦ let last = passed (eqb kind 5) (reply_at pass bytes) x m.1 in is_kind kind 5 pass bytes x last.0 (reply_read pass bytes x fits small last.1)
          ]
        ]
      ]
    ]

pub record_read : (bytes : List ℕ) (x : RecordValue × List ℕ) → IsBytes bytes → record_at bytes ≡ Some x → FitsRecord x.0 × (bytes ≡ record_bytes x.0 ++ x.1)
unfolding record_at
record_read bytes x fits e =
    let a = bind_some (byte_at bytes) (λ kind. number_at w32 kind.1 >>= λ pass. kind_at kind.0 pass.0 pass.1) x e in
    let b = bind_some (number_at w32 a.0.1) (λ pass. kind_at a.0.0 pass.0 pass.1) x a.2 in
    let ta = byte_takes bytes a.0 fits a.1 in
    let tb = number_takes w32 (2 ^ 32) wide32 a.0.1 b.0 ta.0.rest_fits b.1 in
    let found = kind_read a.0.0 b.0.0 b.0.1 x tb.0.rest_fits tb.1 b.2 in
    (found.fits_record, ta.0.parts ∙ ap (λ (t : List ℕ). a.0.0 ∷ t) tb.0.parts ∙ found.whole)

with_limit : (limit order : ℕ) (bytes text rest : List ℕ) → Takes bytes text rest → to_be_bytes w64 mark ++ (to_be_bytes w64 limit ++ (order ∷ bytes)) ≡ (to_be_bytes w64 mark ++ (to_be_bytes w64 limit ++ (order ∷ text))) ++ rest
with_limit limit order bytes text rest taken = ap (λ (t : List ℕ). to_be_bytes w64 mark ++ (to_be_bytes w64 limit ++ (order ∷ t))) taken.parts

files_read : (limit order : ℕ) (bytes : List ℕ) (x : HeadValue × List ℕ) → IsBytes bytes → limit < 2 ^ 64 → order < 256 → files_at limit order bytes ≡ Some x
    → FitsHead x.0 × (to_be_bytes w64 mark ++ (to_be_bytes w64 limit ++ (order ∷ bytes)) ≡ head_bytes x.0 ++ x.1)
unfolding files_at head_bytes
files_read limit order bytes x fits small byte e =
    let a = bind_some (text_at bytes) (λ schemas. text_at schemas.1 >>= λ aggregations. Some (record { limit = limit; order = order; schemas = schemas.0; aggregations = aggregations.0 }, aggregations.1)) x e in
    let b = bind_some (text_at a.0.1) (λ aggregations. Some (record { limit = limit; order = order; schemas = a.0.0; aggregations = aggregations.0 }, aggregations.1)) x a.2 in
    let ta = text_takes bytes a.0 fits a.1 in
    let tb = text_takes a.0.1 b.0 ta.0.rest_fits b.1 in
    let all = Takes-then bytes (text_bytes a.0.0) a.0.1 (text_bytes b.0.0) b.0.1 ta.0 tb.0 in
    let made : HeadValue × List ℕ = (record { limit = limit; order = order; schemas = a.0.0; aggregations = b.0.0 }, b.0.1) in
    subst (λ (y : HeadValue × List ℕ). FitsHead y.0 × (to_be_bytes w64 mark ++ (to_be_bytes w64 limit ++ (order ∷ bytes)) ≡ head_bytes y.0 ++ y.1)) (some_is made x b.2)
    (record { limit = small; order = byte; schemas = ta.1; aggregations = tb.1 }, with_limit limit order bytes (text_bytes a.0.0 ++ text_bytes b.0.0) b.0.1 all)

pub head_read : (bytes : List ℕ) (x : HeadValue × List ℕ) → IsBytes bytes → head_at bytes ≡ Some x → FitsHead x.0 × (bytes ≡ head_bytes x.0 ++ x.1)
unfolding head_at limit_at
head_read bytes x fits e =
    let a = bind_some (number_at w64 bytes) (λ first. cond (eqb first.0 mark) (limit_at first.1) None) x e in
    let g = passed (eqb a.0.0 mark) (limit_at a.0.1) x a.2 in
    let b = bind_some (number_at w64 a.0.1) (λ limit. byte_at limit.1 >>= λ order. files_at limit.0 order.0 order.1) x g.1 in
    let d = bind_some (byte_at b.0.1) (λ order. files_at b.0.0 order.0 order.1) x b.2 in
    let ta = number_takes w64 (2 ^ 64) wide64 bytes a.0 fits a.1 in
    let tb = number_takes w64 (2 ^ 64) wide64 a.0.1 b.0 ta.0.rest_fits b.1 in
    let td = byte_takes b.0.1 d.0 tb.0.rest_fits d.1 in
    let f = files_read b.0.0 d.0.0 d.0.1 x td.0.rest_fits tb.1 td.1 d.2 in
    let marked : bytes ≡ to_be_bytes w64 mark ++ a.0.1 = ta.0.parts ∙ ap (λ (n : ℕ). to_be_bytes w64 n ++ a.0.1) (eqb-true _ _ g.0) in
    (f.0, marked ∙ ap (λ (t : List ℕ). to_be_bytes w64 mark ++ t) (tb.0.parts ∙ ap (λ (t : List ℕ). to_be_bytes w64 b.0.0 ++ t) td.0.parts) ∙ f.1)

pub legal_record : (r : RecordValue) → FitsRecord r → HasLegalRecord r
legal_record (Entered (Put pass path time value end)) fits = fits.legal
legal_record (Entered (Drain pass path now)) fits = fits.legal
legal_record (Entered (Ask pass number try now)) fits = tt
legal_record (Entered (Fault pass class)) fits = tt
legal_record (Replied reply) fits = tt

-- ---- what was written is read again

put_again : (pass : ℕ) (path : List ℕ) (time : ℕ) (value : ℤ) (end : PutEnd) (rest : List ℕ) → FitsPut pass path time value
    → put_at pass (to_be_bytes w16 (length path) ++ (path ++ (to_be_bytes w32 time ++ (milli_bytes value ++ (end_byte end ∷ rest))))) ≡ Some (Entered (Put pass path time value end), rest)
unfolding put_at
put_again pass path time value end rest fits =
    let back = milli_bytes value ++ (end_byte end ∷ rest) in
    rw (path_again path (to_be_bytes w32 time ++ back) fits.legal, number_again w32 (2 ^ 32) wide32 time back fits.time_fits, value_again value (end_byte end ∷ rest) fits.value_fits, end_again end rest) refl

drain_again : (pass : ℕ) (path : List ℕ) (now : ℕ) (rest : List ℕ) → FitsDrain pass path now
    → drain_at pass (to_be_bytes w16 (length path) ++ (path ++ (to_be_bytes w64 now ++ rest))) ≡ Some (Entered (Drain pass path now), rest)
unfolding drain_at
drain_again pass path now rest fits =
    rw (path_again path (to_be_bytes w64 now ++ rest) fits.legal, number_again w64 (2 ^ 64) wide64 now rest fits.now_fits) refl

ask_again : (pass number try now : ℕ) (rest : List ℕ) → FitsAsk pass number try now
    → ask_at pass (to_be_bytes w64 number ++ (to_be_bytes w32 try ++ (to_be_bytes w64 now ++ rest))) ≡ Some (Entered (Ask pass number try now), rest)
unfolding ask_at
ask_again pass number try now rest fits =
    let back = to_be_bytes w64 now ++ rest in
    rw (number_again w64 (2 ^ 64) wide64 number (to_be_bytes w32 try ++ back) fits.number_fits, number_again w32 (2 ^ 32) wide32 try back fits.try_fits, number_again w64 (2 ^ 64) wide64 now rest fits.now_fits) refl

fault_again : (pass class : ℕ) (rest : List ℕ) → class < 2 ^ 32 → fault_at pass (to_be_bytes w32 class ++ rest) ≡ Some (Entered (Fault pass class), rest)
unfolding fault_at
fault_again pass class rest fits = rw (number_again w32 (2 ^ 32) wide32 class rest fits) refl

reply_again : (reply : ReplyValue) (rest : List ℕ) → FitsReply reply
    → reply_at reply.pass (to_be_bytes w64 reply.number ++ (text_bytes reply.query ++ (text_bytes reply.body ++ (text_bytes reply.text ++ rest)))) ≡ Some (Replied reply, rest)
unfolding reply_at
reply_again reply rest fits =
    let last = text_bytes reply.text ++ rest in
    let back = text_bytes reply.body ++ last in
    rw (number_again w64 (2 ^ 64) wide64 reply.number (text_bytes reply.query ++ back) fits.number, text_again reply.query back fits.query, text_again reply.body last fits.body, text_again reply.text rest fits.text) refl

front_again : (kind pass : ℕ) (bytes : List ℕ) → pass < 2 ^ 32 → record_at (kind ∷ (to_be_bytes w32 pass ++ bytes)) ≡ kind_at kind pass bytes
unfolding record_at byte_at
front_again kind pass bytes lt = rw (number_again w32 (2 ^ 32) wide32 pass bytes lt) refl

pub record_again : (r : RecordValue) (rest : List ℕ) → FitsRecord r → record_at (record_bytes r ++ rest) ≡ Some (r, rest)
unfolding put_bytes drain_bytes ask_bytes fault_bytes reply_bytes kind_at
record_again (Entered (Put pass path time value end)) rest fits =
    let back = to_be_bytes w32 time ++ (milli_bytes value ++ (end_byte end ∷ [])) in
    ap (λ (t : List ℕ). record_at (1 ∷ (to_be_bytes w32 pass ++ (to_be_bytes w16 (length path) ++ t)))) (append_assoc path back rest)
    ∙ front_again 1 pass (to_be_bytes w16 (length path) ++ (path ++ (back ++ rest))) fits.pass_fits
    ∙ put_again pass path time value end rest fits
record_again (Entered (Drain pass path now)) rest fits =
    ap (λ (t : List ℕ). record_at (2 ∷ (to_be_bytes w32 pass ++ (to_be_bytes w16 (length path) ++ t)))) (append_assoc path (to_be_bytes w64 now) rest)
    ∙ front_again 2 pass (to_be_bytes w16 (length path) ++ (path ++ (to_be_bytes w64 now ++ rest))) fits.pass_fits
    ∙ drain_again pass path now rest fits
record_again (Entered (Ask pass number try now)) rest fits =
    front_again 3 pass (to_be_bytes w64 number ++ (to_be_bytes w32 try ++ (to_be_bytes w64 now ++ rest))) fits.pass_fits ∙ ask_again pass number try now rest fits
record_again (Entered (Fault pass class)) rest fits =
    front_again 4 pass (to_be_bytes w32 class ++ rest) fits.0 ∙ fault_again pass class rest fits.1
record_again (Replied reply) rest fits =
    let last = text_bytes reply.text in
    let body = text_bytes reply.body in
    let query = text_bytes reply.query in
    let regrouped : (query ++ (body ++ last)) ++ rest ≡ query ++ (body ++ (last ++ rest)) = append_assoc query (body ++ last) rest ∙ ap (λ (t : List ℕ). query ++ t) (append_assoc body last rest) in
    ap (λ (t : List ℕ). record_at (5 ∷ (to_be_bytes w32 reply.pass ++ (to_be_bytes w64 reply.number ++ t)))) regrouped
    ∙ front_again 5 reply.pass (to_be_bytes w64 reply.number ++ (query ++ (body ++ (last ++ rest)))) fits.pass
    ∙ reply_again reply rest fits

files_again : (head : HeadValue) (rest : List ℕ) → FitsHead head → files_at head.limit head.order (text_bytes head.schemas ++ (text_bytes head.aggregations ++ rest)) ≡ Some (head, rest)
unfolding files_at
files_again head rest fits = rw (text_again head.schemas (text_bytes head.aggregations ++ rest) fits.schemas, text_again head.aggregations rest fits.aggregations) refl

limit_again : (limit order : ℕ) (bytes : List ℕ) → limit < 2 ^ 64 → head_at (to_be_bytes w64 mark ++ (to_be_bytes w64 limit ++ (order ∷ bytes))) ≡ files_at limit order bytes
unfolding head_at limit_at byte_at
limit_again limit order bytes lt =
    rw (number_again w64 (2 ^ 64) wide64 mark (to_be_bytes w64 limit ++ (order ∷ bytes)) (omega arith), number_again w64 (2 ^ 64) wide64 limit (order ∷ bytes) lt) refl

pub head_again : (head : HeadValue) (rest : List ℕ) → FitsHead head → head_at (head_bytes head ++ rest) ≡ Some (head, rest)
unfolding head_bytes
head_again head rest fits =
    let first = text_bytes head.schemas in
    let second = text_bytes head.aggregations in
    ap (λ (t : List ℕ). head_at (to_be_bytes w64 mark ++ (to_be_bytes w64 head.limit ++ (head.order ∷ t)))) (append_assoc first second rest)
    ∙ limit_again head.limit head.order (first ++ (second ++ rest)) fits.limit
    ∙ files_again head rest fits

-- ---- with lengths

measured_again : {X : Type 0} (text rest : List ℕ) (x : X) (found : Option (X × List ℕ)) → found ≡ Some (x, rest) → measured (text ++ rest) found ≡ Some (x, length text)
measured_again text rest x found is =
    let long : length (text ++ rest) - length rest ≡ length text = omega (arith, length-append text rest) in
    ap (measured (text ++ rest)) is ∙ ap (λ (n : ℕ). Some (x, n)) long

pub head_in_again : (head : HeadValue) (rest : List ℕ) → FitsHead head → head_in (head_bytes head ++ rest) ≡ Some (head, length (head_bytes head))
head_in_again head rest fits = measured_again (head_bytes head) rest head (head_at (head_bytes head ++ rest)) (head_again head rest fits)

pub record_in_again : (r : RecordValue) (rest : List ℕ) → FitsRecord r → record_in (record_bytes r ++ rest) ≡ Some (r, length (record_bytes r))
record_in_again r rest fits = measured_again (record_bytes r) rest r (record_at (record_bytes r ++ rest)) (record_again r rest fits)

-- what was found, by what is found with the bytes behind it
measured_read : {X : Type 0} (Fits : X → Type 0) (text : X → List ℕ) (bytes : List ℕ) (found : Option (X × List ℕ))
    → ((x : X × List ℕ) → found ≡ Some x → Fits x.0 × (bytes ≡ text x.0 ++ x.1)) → IfSome (measured bytes found) (λ y. Fits y.0 × (take y.1 bytes ≡ text y.0))
measured_read Fits text bytes None holds = tt
measured_read Fits text bytes (Some x) holds =
    let h = holds x refl in
    let long : length bytes - length x.1 ≡ length (text x.0) = omega (arith, ap length h.1, length-append (text x.0) x.1) in
    (h.0, ap (λ (n : ℕ). take n bytes) long ∙ ap (take (length (text x.0))) h.1 ∙ take_at (text x.0) x.1 (length (text x.0)) refl)

pub head_in_read : (bytes : List ℕ) → IsBytes bytes → IfSome (head_in bytes) (λ x. FitsHead x.0 × (take x.1 bytes ≡ head_bytes x.0))
head_in_read bytes fits = measured_read FitsHead head_bytes bytes (head_at bytes) (λ x e. head_read bytes x fits e)

pub record_in_read : (bytes : List ℕ) → IsBytes bytes → IfSome (record_in bytes) (λ x. FitsRecord x.0 × (take x.1 bytes ≡ record_bytes x.0))
record_in_read bytes fits = measured_read FitsRecord record_bytes bytes (record_at bytes) (λ x e. record_read bytes x fits e)
