use Rattle.std.proofs.Common.{◌≡◌, ◌∙◌, ◌==◌, ◌<◌, ap, arith, subst, sym}
use Rattle.atomic_table.specs.Seated.{TableId}
use Rattle.credit_gate.specs.Rule.{Below}
use Rattle.credit_gate.proofs.Seats.{below_tried}
use Rattle.credit_gate.specs.Seen.{GateSeen, SeatSeen}
use Rattle.credit_gate.proofs.Keeping.{tries}
use Rattle.credit_gate.proofs.gate.Gate.try_last.Goals as goal

pub swap-found-requires : goal.swap-found-requires
swap-found-requires c =
    let gate = ap (λ (g : GateSeen). g.name) c.self.view_is in
    let limit = ap (λ (g : GateSeen). g.limit) c.self.view_is in
    let seat = ap (λ (s : SeatSeen). s.name) c.seat.view_is in
    let s = c.seat.inside.seat in
    let table = c.self.inside.table.shared in
    let words : c.args.place < table.table_id.words = omega (arith, limit, c.requires.place, c.self.invariant.1) in
    let key : c.args.place < table.key = omega (arith, limit, c.requires.place, c.self.invariant.2) in (
      let same : s.table_id ≡ table.table_id = cc (gate, seat, c.requires.seat) in same,
      words,
      tries table.key 1 s.id c.args.place s.me table.table_id.slots key,
    )

pub invariant_of-seat : goal.invariant_of-seat
invariant_of-seat c =
    let gate = ap (λ (g : GateSeen). g.name.words) c.self.view_is in
    let limit = ap (λ (g : GateSeen). g.limit) c.self.view_is in
    let seat = ap (λ (s : SeatSeen). s.name.words) c.seat.view_is in
    let named = ap (λ (id : TableId). id.words) c.requires.seat in
    let s = c.seat.inside.seat in
    let n = c.swap-found.new.seat in
    let e = c.swap-found.ensures in
    let lt : c.args.place < s.table_id.words = omega (arith, gate, limit, seat, named, c.requires.place, c.self.invariant.1) in (
      e.2.1 ∙ c.seat.invariant.0,
      subst (λ (id : TableId). Below id.words n.me.0.places) (sym e.0) (below_tried (c.swap-found.result == 0) 1 c.args.place s.table_id.words s.me.0 n.me.0 lt e.2.0 c.seat.invariant.1),
    )
