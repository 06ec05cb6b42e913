-- What several calls share has one spelling, but for free bytes.
use Rattle.std.proofs.Common.{ℕ}
use Rattle.std.specs.Int.{w32, w64}
use Rattle.ndr_core.specs.Laws.{HasOneSpelling}
use Rattle.ndr_core.proofs.OneSpelling.{◌⊛◌, bytes_one, checked_one, chunk_one, conformant_one, followed_one, guid_one, many_one, number_one, padded_one, seen_one, string_one, varying_one}
use Rattle.ndr_frs.specs.Shared.{below_item, bytes_item, flag_item, gvsn_item, interval_item, intervals_item, name_item, sum_item, uid_item, update_item, updates_item}

pub below_one : (limit : ℕ) → HasOneSpelling (below_item limit)
below_one limit = checked_one 4 _ (number_one w32)

flag_one : HasOneSpelling flag_item
flag_one = seen_one _ _ (checked_one 4 _ (number_one w32))

sum_one : HasOneSpelling sum_item
sum_one = seen_one _ _ (chunk_one 1 20)

uid_one : HasOneSpelling uid_item
uid_one = seen_one _ _ (guid_one ⊛ number_one w64)

gvsn_one : HasOneSpelling gvsn_item
gvsn_one = seen_one _ _ (guid_one ⊛ number_one w64)

name_one : HasOneSpelling name_item
name_one = checked_one 4 _ (string_one 256)

pub interval_one : HasOneSpelling interval_item
interval_one = seen_one _ _ (padded_one 8 ⊛ (guid_one ⊛ (number_one w64 ⊛ number_one w64)))

pub update_one : HasOneSpelling update_item
unfolding update_item
update_one =
    seen_one _ _
    (padded_one 8 ⊛ (flag_one ⊛ (flag_one ⊛ (number_one w32 ⊛ (number_one w64 ⊛ (number_one w64 ⊛ (number_one w64 ⊛ (guid_one ⊛ (sum_one ⊛ (chunk_one 1 16 ⊛ (uid_one ⊛ (gvsn_one ⊛ (uid_one ⊛ (name_one ⊛ number_one w32))))))))))))))

pub intervals_one : (limit : ℕ) → HasOneSpelling (intervals_item limit)
intervals_one limit = seen_one _ _ (followed_one (conformant_one limit) (λ count. many_one count interval_one))

pub updates_one : HasOneSpelling updates_item
updates_one = seen_one _ _ (followed_one (conformant_one 256) (λ maximum. followed_one (varying_one maximum) (λ count. many_one count update_one)))

pub bytes_item_one : HasOneSpelling bytes_item
bytes_item_one = seen_one _ _ (followed_one (conformant_one 32768) (λ maximum. followed_one (varying_one maximum) (λ count. bytes_one count)))
