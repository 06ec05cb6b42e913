use Rattle.std.proofs.Common.{◌≡◌, ◌∙◌, ◌<◌, ap, arith, subst}
use Rattle.credit_gate.specs.Steps.{left}
use Rattle.credit_gate.proofs.Seats.{moved}
use Rattle.credit_gate.proofs.Totals.{below_fewer}
use Rattle.credit_gate.specs.Rule.{times}
use Rattle.credit_gate.specs.Seen.{GateSeen, SeatSeen}
use Rattle.atomic_table.specs.Seated.{TableId}
use Rattle.credit_gate.proofs.Keeping.{leaves}
use Rattle.credit_gate.proofs.gate.Gate.leave.Goals as goal

pub swap-found-requires : goal.swap-found-requires
swap-found-requires c =
    let gate = ap (λ (g : GateSeen). g.name) c.self.view_is in
    let seat = ap (λ (s : SeatSeen). s.name) c.seat.view_is in
    let view = ap (λ (s : SeatSeen). times c.args.place s.view.places) c.seat.view_is in
    let s = c.seat.inside.seat in
    let table = c.self.inside.table.shared in
    let has : 0 < times c.args.place s.me.0.places = omega (arith, view, c.requires.place) in
    let same : s.table_id ≡ table.table_id = cc (gate, seat, c.requires.seat) in
    let room : c.args.place < s.table_id.words = c.seat.invariant.1 c.args.place has in (
      same,
      subst (λ (t : TableId). c.args.place < t.words) same room,
      leaves table.key s.id c.args.place s.me table.table_id.slots has,
    )

pub invariant_of-seat : goal.invariant_of-seat
invariant_of-seat c =
    let view = ap (λ (s : SeatSeen). times c.args.place s.view.places) c.seat.view_is in
    let s = c.seat.inside.seat in
    let n = c.swap-found.new.seat in
    let e = c.swap-found.ensures in
    let has : 0 < times c.args.place s.me.0.places = omega (arith, view, c.requires.place) in
    (e.2.1 ∙ c.seat.invariant.0, moved s.table_id n.table_id (left c.args.place s.me.0) n.me.0 e.0 e.2.0 (below_fewer s.table_id.words c.args.place s.me.0.places has c.seat.invariant.1))
