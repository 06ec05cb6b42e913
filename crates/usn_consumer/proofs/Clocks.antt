-- Clocks of records.
use Rattle.std.proofs.Common.{◌≡◌, ◌<◌, ◌^◌, Bool, true, false, cond, List, [], ◌∷◌, refl, inl, inr, Some, arith}
use Rattle.std.specs.Prelude.{IfSome, find}
use Rattle.std.proofs.lemmas.Bool.Decides.{nat_tests}
use Rattle.frs_base.specs.Options.{In}
use Rattle.win_order.specs.declared.update.Update.{Update}
use Rattle.usn_consumer.specs.Next.{have_clocks}

-- the record that is found has its clock below 2^62
pub found_clock : (p : Update → Bool) (records : List Update) → have_clocks records ≡ true → IfSome (find p records) (λ u. u.clock < 2 ^ 62)
found_clock p [] have = tt
found_clock p (u ∷ us) have = by (p u) (found_clock p us rest)
  where
    rest : have_clocks us ≡ true
    rest = grind (arith, nat_tests)

    first : u.clock < 2 ^ 62
    first = grind (arith, nat_tests)

    by : (b : Bool) → IfSome (find p us) (λ v. v.clock < 2 ^ 62) → IfSome (cond b (Some u) (find p us)) (λ v. v.clock < 2 ^ 62)
    by true later = first
    by false later = later

-- records of which each has its clock below 2^62
pub clocks_of_each : (records : List Update) → ((u : Update) → In u records → u.clock < 2 ^ 62) → have_clocks records ≡ true
clocks_of_each [] each = refl
clocks_of_each (u ∷ us) each =
    let first = each u (inl refl) in
    let rest = clocks_of_each us (λ v h. each v (inr h)) in
    grind (arith, nat_tests)
