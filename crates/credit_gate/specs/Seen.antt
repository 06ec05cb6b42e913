-- What contracts see of a gate and of a seat.
use Rattle.std.specs.Prelude.{ℕ, Bool, List, refl}
use Rattle.std.specs.Coded.{Coded, code_by, coded×, coded_bool, coded_list, coded_ℕ}
use Rattle.atomic_table.specs.Seated.{TableId, table_id_coded}
use Rattle.credit_gate.specs.declared.view.View.{View}

pub record GateSeen : Type 0 where
  pub name : TableId
  pub limit : ℕ

abbrev pub gate_code : Coded GateSeen
gate_code = code_by (TableId × ℕ) (coded× table_id_coded coded_ℕ) (λ g. (g.name, g.limit)) (λ p. record { name = p.0; limit = p.1 }) (λ _. refl)

pub record SeatSeen : Type 0 where
  pub name : TableId
  pub view : View

abbrev pub view_code : Coded View
view_code =
    code_by (List ℕ × (List (ℕ × ℕ) × (ℕ × (ℕ × (ℕ × Bool)))))
    (coded× (coded_list coded_ℕ) (coded× (coded_list (coded× coded_ℕ coded_ℕ)) (coded× coded_ℕ (coded× coded_ℕ (coded× coded_ℕ coded_bool)))))
    (λ v. (v.places, (v.tried, (v.entered, (v.busy, (v.splits, v.first))))))
    (λ p. record { places = p.0; tried = p.1.0; entered = p.1.1.0; busy = p.1.1.1.0; splits = p.1.1.1.1.0; first = p.1.1.1.1.1 })
    (λ _. refl)

abbrev pub seat_code : Coded SeatSeen
seat_code = code_by (TableId × View) (coded× table_id_coded view_code) (λ s. (s.name, s.view)) (λ p. record { name = p.0; view = p.1 }) (λ _. refl)
