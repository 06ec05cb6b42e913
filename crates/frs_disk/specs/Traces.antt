-- How proofs store the states of a disk in memory.
use Rattle.std.specs.Prelude.{ℕ, List, refl}
use Rattle.std.specs.Coded.{Coded, code_by, coded×, coded_list, coded_ℕ}
use Rattle.frs_disk.specs.Crashes.{Crash}

-- a state is stored as a tuple
abbrev pub crash_code : Coded Crash
crash_code =
    code_by (List ℕ × (List ℕ × (List (ℕ × ℕ) × (ℕ × ℕ)))) (coded× (coded_list coded_ℕ) (coded× (coded_list coded_ℕ) (coded× (coded_list (coded× coded_ℕ coded_ℕ)) (coded× coded_ℕ coded_ℕ))))
    (λ s. (s.seen, (s.safe, (s.torn, (s.least, s.greatest)))))
    (λ p. record { seen = p.0; safe = p.1.0; torn = p.1.1.0; least = p.1.1.1.0; greatest = p.1.1.1.1 }) (λ _. refl)

-- the states as their list
abbrev pub states_code : Coded (List Crash)
states_code = coded_list crash_code
