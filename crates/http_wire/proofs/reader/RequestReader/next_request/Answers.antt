use Rattle.std.proofs.Common.{rules, ◌≡◌, Some, drop, refl}
use Rattle.std.proofs.lemmas.List.{take_rest}
use Rattle.http_wire.proofs.CutLemmas.{awaits_room}
use Rattle.http_wire.proofs.reader.RequestReader.next_request.Goals as goal

pub returns-in-Refused-clause-hands : goal.returns-in-Refused-clause-hands
returns-in-Refused-clause-hands c =
    let left : c.args.self.now.left ≡ Some (drop c.self.inside.at c.self.inside.buffer.items) = search rules in
    let sliced = rw c.deref.ensures.value at c.in-Refused.ensures in
    let refused = simp take_rest at sliced in
    (drop c.self.inside.at c.self.inside.buffer.items, left, refused, refl)

pub returns-in-Open-clause-room : goal.returns-in-Open-clause-room
returns-in-Open-clause-room c = λ x is.
    let sliced = rw c.deref.ensures.value at c.in-Open.ensures in
    let awaits = simp take_rest at sliced in
    let some = rw c.if-self.false at is in
    let same : drop c.self.inside.at c.self.inside.buffer.items ≡ x = cc in
    rw (← same) (awaits_room (drop c.self.inside.at c.self.inside.buffer.items) awaits)

pub returns-in-OpenBody-clause-hands : goal.returns-in-OpenBody-clause-hands
returns-in-OpenBody-clause-hands c =
    let left : c.args.self.now.left ≡ Some (drop c.self.inside.at c.self.inside.buffer.items) = search rules in
    let sliced = rw c.deref.ensures.value at c.in-OpenBody.ensures.0 in
    let awaits = simp take_rest at sliced in (
      search rules,
      λ x is.
          let same : drop c.self.inside.at c.self.inside.buffer.items ≡ x = cc in
          rw (← same) awaits,
    )

pub returns-in-OpenBody-clause-room : goal.returns-in-OpenBody-clause-room
returns-in-OpenBody-clause-room c = λ x is.
    let sliced = rw c.deref.ensures.value at c.in-OpenBody.ensures.0 in
    let awaits = simp take_rest at sliced in
    let some = rw c.if-self.false at is in
    let same : drop c.self.inside.at c.self.inside.buffer.items ≡ x = cc in
    rw (← same) (awaits_room (drop c.self.inside.at c.self.inside.buffer.items) awaits)
