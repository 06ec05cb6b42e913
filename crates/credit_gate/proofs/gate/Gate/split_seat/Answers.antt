use Rattle.std.proofs.Common.{◌≡◌, ℕ, ◌<◌, ap, subst}
use Rattle.credit_gate.specs.Seen.{GateSeen, SeatSeen}
use Rattle.credit_gate.proofs.Keeping.{cuts}
use Rattle.credit_gate.proofs.gate.Gate.split_seat.Goals as goal

pub split_seat-requires : goal.split_seat-requires
split_seat-requires c =
    let gate = ap (λ (g : GateSeen). g.name) c.self.view_is in
    let seat = ap (λ (s : SeatSeen). s.name) c.seat.view_is in
    let P : ℕ → Type 0 = λ n. 0 < n in
    let s = c.seat.inside.seat in (
      let same : s.table_id ≡ c.self.inside.table.shared.table_id = cc (gate, seat, c.requires) in same,
      subst P c.self.invariant.1 c.self.invariant.0,
      cuts c.self.inside.table.shared.key s.id s.me.0,
    )
