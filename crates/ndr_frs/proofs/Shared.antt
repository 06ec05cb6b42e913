-- What several calls share keeps the laws of items.
use Rattle.std.proofs.Common.{◌≡◌, ℕ, zero, suc, ◌^◌, ◌<◌, ◌≤◌, Bool, true, false, eqb, ltb, lt-ltb, List, length, refl, ap, arith, lit<}
use Rattle.std.specs.List.{AllByRecursion}
use Rattle.std.proofs.lemmas.Bool.{ltb-true}
use Rattle.frs_base.specs.Names.{IsName}
use Rattle.version_vector.specs.declared.interval.Interval.{Interval}
use Rattle.win_order.specs.declared.update.Update.{Update}
use Rattle.ndr_core.specs.Items.{AreBytes}
use Rattle.ndr_core.specs.Laws.{IsLawful}
use Rattle.ndr_core.proofs.Arrays.{conformant_lawful, lawful_many, varying_lawful}
use Rattle.ndr_core.proofs.Bytes.{HasBytes, bytes_of_lawful, chunk_lawful, number_32_lawful, number_64_lawful, padded_lawful}
use Rattle.ndr_core.proofs.Identifiers.{guid_lawful}
use Rattle.ndr_core.proofs.Text.{string_lawful}
use Rattle.ndr_core.proofs.Words.{◌⊗◌, lawful_checked, lawful_seen, lawful_then, lawful_where}
use Rattle.ndr_frs.specs.Shared.{IsGvsn, IsInterval, IsUid, IsUpdate, below_item, bytes_item, flag_item, gvsn_item, interval_item, intervals_item, is_name, name_item, number_of, sum_item, uid_item, update_item, updates_item}
use Rattle.ndr_frs.proofs.Names.{name_text, name_true}

flag_back : (n : ℕ) → n < 2 → number_of (eqb n 1) ≡ n
flag_back zero lt = refl
flag_back (suc zero) lt = refl
flag_back (suc (suc n)) lt = absurd (omega arith)

flag_again : (b : Bool) → eqb (number_of b) 1 ≡ b
flag_again true = refl
flag_again false = refl

flag_small : (b : Bool) → number_of b < 2
flag_small true = lit< tt
flag_small false = lit< tt

pub flag_lawful : IsLawful flag_item (λ b. Unit {0})
flag_lawful =
    lawful_where (λ b. Unit {0}) (λ b any. (flag_again b, (lt-ltb (number_of b) 2 (flag_small b), omega (arith, flag_small b))))
    (lawful_seen _ _ (λ at n text spells. flag_back n (ltb-true _ _ spells.0)) (lawful_checked 4 (λ n. ltb n 2) number_32_lawful))

pub below_lawful : (limit : ℕ) → IsLawful (below_item limit) (λ n. (n < limit) × (n < 2 ^ 32))
below_lawful limit = lawful_where (λ n. (n < limit) × (n < 2 ^ 32)) (λ n is. (lt-ltb n limit is.0, is.1)) (lawful_checked 4 (λ n. ltb n limit) number_32_lawful)

sum_lawful : IsLawful sum_item (λ s. HasBytes 20 s.0)
sum_lawful = lawful_where (λ s. HasBytes 20 s.0) (λ s is. (refl, is)) (lawful_seen _ _ (λ at bytes text spells. refl) (chunk_lawful 1 20))

uid_lawful : IsLawful uid_item IsUid
uid_lawful = lawful_where IsUid (λ u is. (refl, (is.db, is.version))) (lawful_seen _ _ (λ at t text spells. refl) (guid_lawful ⊗ number_64_lawful))

gvsn_lawful : IsLawful gvsn_item IsGvsn
gvsn_lawful = lawful_where IsGvsn (λ g is. (refl, (is.db, is.version))) (lawful_seen _ _ (λ at t text spells. refl) (guid_lawful ⊗ number_64_lawful))

-- units of two bytes that are a name
record IsWrittenName (units : List ℕ) : Type 0 where
  name : IsName units
  small : AllByRecursion (λ u. u < 2 ^ 16) units

name_lawful : IsLawful name_item IsWrittenName
name_lawful = lawful_where IsWrittenName (λ units is. (name_true units is.name, name_text units is.name is.small)) (lawful_checked 4 is_name (string_lawful 256))

pub interval_lawful : IsLawful interval_item IsInterval
interval_lawful =
    lawful_where IsInterval (λ i is. (refl, (tt, (is.db, (is.low, is.high)))))
    (lawful_seen _ _ (λ at t text spells. refl) (padded_lawful 8 ⊗ (guid_lawful ⊗ (number_64_lawful ⊗ number_64_lawful))))

pub update_lawful : IsLawful update_item IsUpdate
unfolding update_item
update_lawful =
    lawful_where IsUpdate
    (λ u is. (refl, (tt, (tt, (tt, (is.attributes, (is.fence, (is.clock, (is.created, (is.set, (is.hash, (is.similarity, (is.uid, (is.gvsn, (is.parent, (record { name = is.name; small = is.units }, is.flags))))))))))))))))
    (lawful_seen _ _ (λ at t text spells. refl)
    (padded_lawful 8 ⊗ (flag_lawful ⊗ (flag_lawful ⊗ (number_32_lawful ⊗ (number_64_lawful ⊗ (number_64_lawful ⊗ (number_64_lawful ⊗ (guid_lawful ⊗ (sum_lawful ⊗ (chunk_lawful 1 16 ⊗ (uid_lawful ⊗ (gvsn_lawful ⊗ (uid_lawful ⊗ (name_lawful ⊗ number_32_lawful)))))))))))))))

-- ---- arrays

pub record IsIntervals (limit : ℕ) (v : List Interval) : Type 0 where
  pub short : length v ≤ limit
  pub fits : length v < 2 ^ 32
  pub each : AllByRecursion IsInterval v

pub intervals_lawful : (limit : ℕ) → IsLawful (intervals_item limit) (IsIntervals limit)
intervals_lawful limit =
    lawful_where (IsIntervals limit) (λ v is. (refl, ((is.short, is.fits), (refl, is.each))))
    (lawful_seen _ _ (λ at a text spells. ap (λ (n : ℕ). (n, a.1)) spells.4.0) (lawful_then (conformant_lawful limit) (λ count. lawful_many count interval_lawful)))

pub record IsUpdates (v : ℕ × List Update) : Type 0 where
  pub limit : v.0 ≤ 256
  pub within : length v.1 ≤ v.0
  pub each : AllByRecursion IsUpdate v.1

pub updates_lawful : IsLawful updates_item IsUpdates
updates_lawful =
    lawful_where IsUpdates (λ v is. (refl, ((is.limit, omega (arith, is.limit)), ((is.within, omega (arith, is.limit, is.within)), (refl, is.each)))))
    (lawful_seen _ _ (λ at a text spells. ap (λ (n : ℕ). (a.0, (n, a.1.1))) spells.4.4.0)
    (lawful_then (conformant_lawful 256) (λ maximum. lawful_then (varying_lawful maximum) (λ count. lawful_many count update_lawful))))

pub record IsChunk (v : ℕ × List ℕ) : Type 0 where
  pub limit : v.0 ≤ 32768
  pub within : length v.1 ≤ v.0
  pub bytes : AreBytes v.1

pub bytes_lawful : IsLawful bytes_item IsChunk
bytes_lawful =
    lawful_where IsChunk (λ v is. (refl, ((is.limit, omega (arith, is.limit)), ((is.within, omega (arith, is.limit, is.within)), (refl, is.bytes)))))
    (lawful_seen _ _ (λ at a text spells. ap (λ (n : ℕ). (a.0, (n, a.1.1))) spells.4.4.0)
    (lawful_then (conformant_lawful 32768) (λ maximum. lawful_then (varying_lawful maximum) (λ count. bytes_of_lawful count))))
