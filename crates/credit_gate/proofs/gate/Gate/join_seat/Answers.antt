use Rattle.std.proofs.Common.{◌≡◌, ◌∙◌, ℕ, List, ◌<◌, ap, subst}
use Rattle.atomic_table.specs.Seated.{TableId}
use Rattle.credit_gate.specs.Rule.{Below}
use Rattle.credit_gate.specs.Steps.{joined}
use Rattle.credit_gate.specs.declared.view.View.{View}
use Rattle.credit_gate.proofs.Seats.{moved}
use Rattle.credit_gate.proofs.Totals.{below_both}
use Rattle.credit_gate.specs.Seen.{GateSeen, SeatSeen}
use Rattle.credit_gate.proofs.Keeping.{sums}
use Rattle.credit_gate.proofs.gate.Gate.join_seat.Goals as goal

pub join_seat-requires : goal.join_seat-requires
join_seat-requires c =
    let gate = ap (λ (g : GateSeen). g.name) c.self.view_is in
    let into = ap (λ (s : SeatSeen). s.name) c.into.view_is in
    let from = ap (λ (s : SeatSeen). s.name) c.from.view_is in
    let P : ℕ → Type 0 = λ n. 0 < n in
    let s = c.into.inside.seat in
    let t = c.from.inside.seat in
    let key = c.self.inside.table.shared.key in (
      let same : s.table_id ≡ c.self.inside.table.shared.table_id = cc (gate, into, c.requires.into) in same,
      let same : t.table_id ≡ c.self.inside.table.shared.table_id = cc (gate, from, c.requires.from) in same,
      c.from.invariant.0,
      subst P c.self.invariant.1 c.self.invariant.0,
      sums key s.id s.me.0 t.id t.me.0,
    )

pub invariant_of-into : goal.invariant_of-into
invariant_of-into c =
    let gate = ap (λ (g : GateSeen). g.name) c.self.view_is in
    let into = ap (λ (s : SeatSeen). s.name) c.into.view_is in
    let from = ap (λ (s : SeatSeen). s.name) c.from.view_is in
    let s = c.into.inside.seat in
    let t = c.from.inside.seat in
    let n = c.join_seat.new.seat in
    let e = c.join_seat.ensures in
    let one : t.table_id ≡ s.table_id = cc (gate, into, from, c.requires.into, c.requires.from) in
    let second : Below s.table_id.words t.me.0.places = subst (λ (id : TableId). Below id.words t.me.0.places) one c.from.invariant.1 in
    let view : n.me.0 ≡ joined s.me.0 t.me.0 = ap (λ (m : View × List (ℕ × Unit {0})). m.0) e.2 in
    let slots : n.me.1 ≡ s.me.1 = ap (λ (m : View × List (ℕ × Unit {0})). m.1) e.2 in
    (slots ∙ c.into.invariant.0, moved s.table_id n.table_id (joined s.me.0 t.me.0) n.me.0 e.0 view (below_both s.table_id.words s.me.0.places t.me.0.places c.into.invariant.1 second))
