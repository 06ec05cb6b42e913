-- UUIDs and context handles keep the laws.
use Rattle.std.proofs.Common.{◌≡◌, ℕ, zero, suc, ◌^◌, ◌<◌, List, drop, get_or, length, refl, sym, ap, subst, lit<}
use Rattle.std.specs.Int.{bytes_high_first, from_be_bytes, to_be_bytes, w128}
use Rattle.uuid.specs.Parts.{swap_fields}
use Rattle.uuid.proofs.RoundTrips.{swap_twice}
use Rattle.uuid.proofs.OrderLemmas.{from_be_bytes-to_be_bytes_16}
use Rattle.frs_base.specs.GuidBytes.{be_bytes_16}
use Rattle.ndr_core.specs.Items.{AreBytes}
use Rattle.ndr_core.specs.Identifiers.{IsHandle, guid_item, handle_item, uuid_item}
use Rattle.ndr_core.specs.Laws.{IsLawful}
use Rattle.ndr_core.proofs.Bytes.{HasBytes, chunk_lawful, number_32_lawful, small_byte}
use Rattle.ndr_core.proofs.Words.{◌⊗◌, lawful_seen, lawful_together, lawful_where}

-- bytes stay bytes
swap_bytes : (bytes : List ℕ) → AreBytes bytes → AreBytes (swap_fields bytes)
swap_bytes bytes are zero = are 3
swap_bytes bytes are (suc zero) = are 2
swap_bytes bytes are (suc (suc zero)) = are 1
swap_bytes bytes are (suc (suc (suc zero))) = are 0
swap_bytes bytes are (suc (suc (suc (suc zero)))) = are 5
swap_bytes bytes are (suc (suc (suc (suc (suc zero))))) = are 4
swap_bytes bytes are (suc (suc (suc (suc (suc (suc zero)))))) = are 7
swap_bytes bytes are (suc (suc (suc (suc (suc (suc (suc zero))))))) = are 6
swap_bytes bytes are (suc (suc (suc (suc (suc (suc (suc (suc i)))))))) = last_eight bytes are i
  where
    last_eight : (bytes : List ℕ) → AreBytes bytes → (i : ℕ) → get_or (drop 8 (swap_fields bytes)) i 0 < 256
    last_eight bytes are zero = are 8
    last_eight bytes are (suc zero) = are 9
    last_eight bytes are (suc (suc zero)) = are 10
    last_eight bytes are (suc (suc (suc zero))) = are 11
    last_eight bytes are (suc (suc (suc (suc zero)))) = are 12
    last_eight bytes are (suc (suc (suc (suc (suc zero))))) = are 13
    last_eight bytes are (suc (suc (suc (suc (suc (suc zero)))))) = are 14
    last_eight bytes are (suc (suc (suc (suc (suc (suc (suc zero))))))) = are 15
    last_eight bytes are (suc (suc (suc (suc (suc (suc (suc (suc i)))))))) = lit< tt

high_bytes : (count n : ℕ) → AreBytes (bytes_high_first count n)
high_bytes zero n i = lit< tt
high_bytes (suc count) n zero = small_byte count n
high_bytes (suc count) n (suc i) = high_bytes count n i

uuid_lawful : IsLawful uuid_item (HasBytes 16)
uuid_lawful =
    lawful_where (HasBytes 16) (λ bytes is. (swap_twice bytes is.0, (refl, swap_bytes bytes is.1)))
    (lawful_seen _ _ (λ at bytes text spells. swap_twice bytes spells.2) (chunk_lawful 4 16))

-- the bytes that a UUID is spelled with
uuid_back : (at : ℕ) (bytes text : List ℕ) → uuid_item.Spells at bytes text → to_be_bytes w128 (from_be_bytes w128 bytes) ≡ bytes
uuid_back at bytes text spells =
    let swapped : swap_fields (swap_fields bytes) ≡ bytes = spells.0 in
    let size : length bytes ≡ 16 = ap length (sym swapped) in
    let are : AreBytes bytes = subst AreBytes swapped (swap_bytes (swap_fields bytes) spells.1.3) in
    be_bytes_16 bytes _ size are refl

pub guid_lawful : IsLawful guid_item (λ id. id < 2 ^ 128)
guid_lawful =
    lawful_where (λ id. id < 2 ^ 128) (λ id small. (from_be_bytes-to_be_bytes_16 id small, (refl, high_bytes 16 id)))
    (lawful_seen _ _ uuid_back uuid_lawful)

pub handle_lawful : IsLawful handle_item IsHandle
handle_lawful =
    lawful_together 4
    (lawful_where IsHandle (λ h is. (refl, (is.attributes, is.id))) (lawful_seen _ _ (λ at t text spells. refl) (number_32_lawful ⊗ guid_lawful)))
