-- A disk in memory after one call more.
use Rattle.std.proofs.Common.{◌≡◌, ◌≤◌, ℕ, ◌+◌, ◌-◌, min, Bool, true, false, List, [], ◌∷◌, ◌++◌, length, take, drop, refl, sym, ap, ◌∙◌, subst, arith, if◌then◌else◌, append-nil, append_assoc, length-append, take_all, take_at, take-add}
use Rattle.std.proofs.lemmas.List.{take-append-le, take-take, length-take-le}
use Rattle.frs_disk.specs.Changes.{lost_if, synced_unless}
use Rattle.frs_disk.specs.Crashes.{Crash, Stands, still, patch, wrote, cut_to, lost, synced}
use Rattle.frs_disk.specs.Moments.{push, seen_now, top}
use Rattle.frs_disk.specs.History.{IsKept}
use Rattle.frs_disk.proofs.Moments.{still_stands}
use Rattle.frs_disk.proofs.Stands.{cut_stands, patch_length, wrote_stands}

-- the bytes of the last sync are an image
pub lost_stands : (s : Crash) → s.least ≤ length s.safe → length s.safe ≤ s.greatest → Stands (lost s)
lost_stands s least greatest = record { no_shorter = least; no_longer = greatest; kept = λ k h i torn. refl }

-- other states that end with the same one
kept_as : (bytes : List ℕ) (clean : ℕ) (behind : List ℕ) (ss states : List Crash) → states ≡ ss → IsKept bytes clean behind ss → IsKept bytes clean behind states
kept_as bytes clean behind ss states is kept = let P : List Crash → Type 0 = λ l. IsKept bytes clean behind l in subst P (sym is) kept

patched_front : (m at : ℕ) (new xs : List ℕ) → m ≤ at → at ≤ length xs → take m (patch at new xs) ≡ take m xs
patched_front m at new xs le within =
    take-append-le m (take at xs) (new ++ drop (at + length new) xs) (omega (arith, le, length-take-le at xs within)) ∙ take-take m at xs le

-- what was brought back has the same first bytes
back_again : (n : ℕ) (xs ys bytes : List ℕ) → n ≤ length xs → bytes ≡ take n xs ++ ys → take n bytes ++ ys ≡ take n xs ++ ys
back_again n xs ys bytes le is =
    ap (λ (l : List ℕ). take n l ++ ys) is ∙ ap (λ (l : List ℕ). l ++ ys) (take_at (take n xs) ys n (length-take-le n xs le))

back_length : (n : ℕ) (xs ys bytes : List ℕ) → n ≤ length xs → bytes ≡ take n xs ++ ys → n ≤ length bytes
back_length n xs ys bytes le is = omega (arith, ap length is, length-append (take n xs) ys, length-take-le n xs le)

pub kept_write : (is_lost : Bool) (bytes mid bytes' : List ℕ) (clean clean' at : ℕ) (behind behind' new : List ℕ) (ss states : List Crash)
    → IsKept bytes clean behind ss → at ≤ length bytes → mid ≡ patch at new bytes → bytes' ≡ (if is_lost then take clean' mid ++ behind' else mid)
    → clean' ≡ min clean at → take clean' bytes ++ behind' ≡ take clean bytes ++ behind
    → states ≡ push (λ s. lost_if is_lost (wrote at new s)) ss → IsKept bytes' clean' behind' states
kept_write false bytes mid bytes' clean clean' at behind behind' new ss states kept within is_mid is_bytes is_clean aside is =
    let at_end : bytes' ≡ patch at new bytes = is_bytes ∙ is_mid in
    let len : length bytes' ≡ at + length new + (length bytes - (at + length new)) = ap length at_end ∙ patch_length at new bytes within in
    let front : take clean' (patch at new bytes) ≡ take clean' bytes = patched_front clean' at new bytes (omega (arith, is_clean)) within in
    kept_as bytes' clean' behind' (push (λ s. lost_if false (wrote at new s)) ss) states is (record {
      read = at_end ∙ ap (patch at new) kept.read;
      safe = ap (λ (l : List ℕ). take clean' l ++ behind') at_end ∙ ap (λ (l : List ℕ). l ++ behind') front ∙ aside ∙ kept.safe;
      within = omega (arith, is_clean, len, kept.within);
      stands = wrote_stands at new (top ss) (omega (arith, within, ap length kept.read)) kept.stands;
      least = kept.least;
      greatest = omega (arith, kept.greatest);
    })
kept_write true bytes mid bytes' clean clean' at behind behind' new ss states kept within is_mid is_bytes is_clean aside is =
    let len : length mid ≡ at + length new + (length bytes - (at + length new)) = ap length is_mid ∙ patch_length at new bytes within in
    let inside : clean' ≤ length mid = omega (arith, is_clean, len) in
    let front : take clean' mid ≡ take clean' bytes = ap (λ (l : List ℕ). take clean' l) is_mid ∙ patched_front clean' at new bytes (omega (arith, is_clean)) within in
    let all : take clean' mid ++ behind' ≡ (top ss).safe = ap (λ (l : List ℕ). l ++ behind') front ∙ aside ∙ kept.safe in
    kept_as bytes' clean' behind' (push (λ s. lost_if true (wrote at new s)) ss) states is (record {
      read = is_bytes ∙ all;
      safe = back_again clean' mid behind' bytes' inside is_bytes ∙ all;
      within = back_length clean' mid behind' bytes' inside is_bytes;
      stands = lost_stands (wrote at new (top ss)) kept.least (omega (arith, kept.greatest));
      least = kept.least;
      greatest = omega (arith, kept.greatest);
    })

pub kept_cut : (is_lost : Bool) (bytes mid bytes' : List ℕ) (clean clean' n : ℕ) (behind behind' : List ℕ) (ss states : List Crash)
    → IsKept bytes clean behind ss → n ≤ length bytes → mid ≡ take n bytes → bytes' ≡ (if is_lost then take clean' mid ++ behind' else mid)
    → clean' ≡ min clean n → take clean' bytes ++ behind' ≡ take clean bytes ++ behind
    → states ≡ push (λ s. lost_if is_lost (cut_to n s)) ss → IsKept bytes' clean' behind' states
kept_cut false bytes mid bytes' clean clean' n behind behind' ss states kept within is_mid is_bytes is_clean aside is =
    let at_end : bytes' ≡ take n bytes = is_bytes ∙ is_mid in
    let len : length bytes' ≡ n = ap length at_end ∙ length-take-le n bytes within in
    let front : take clean' (take n bytes) ≡ take clean' bytes = take-take clean' n bytes (omega (arith, is_clean)) in
    kept_as bytes' clean' behind' (push (λ s. lost_if false (cut_to n s)) ss) states is (record {
      read = at_end ∙ ap (λ (l : List ℕ). take n l) kept.read;
      safe = ap (λ (l : List ℕ). take clean' l ++ behind') at_end ∙ ap (λ (l : List ℕ). l ++ behind') front ∙ aside ∙ kept.safe;
      within = omega (arith, is_clean, len);
      stands = cut_stands n (top ss) (omega (arith, within, ap length kept.read)) kept.stands;
      least = omega (arith, kept.least);
      greatest = kept.greatest;
    })
kept_cut true bytes mid bytes' clean clean' n behind behind' ss states kept within is_mid is_bytes is_clean aside is =
    let inside : clean' ≤ length mid = omega (arith, is_clean, ap length is_mid, length-take-le n bytes within) in
    let front : take clean' mid ≡ take clean' bytes = ap (λ (l : List ℕ). take clean' l) is_mid ∙ take-take clean' n bytes (omega (arith, is_clean)) in
    let all : take clean' mid ++ behind' ≡ (top ss).safe = ap (λ (l : List ℕ). l ++ behind') front ∙ aside ∙ kept.safe in
    kept_as bytes' clean' behind' (push (λ s. lost_if true (cut_to n s)) ss) states is (record {
      read = is_bytes ∙ all;
      safe = back_again clean' mid behind' bytes' inside is_bytes ∙ all;
      within = back_length clean' mid behind' bytes' inside is_bytes;
      stands = lost_stands (cut_to n (top ss)) (omega (arith, kept.least)) kept.greatest;
      least = omega (arith, kept.least);
      greatest = kept.greatest;
    })

-- all of it was made sure of
pub kept_sync : (bytes : List ℕ) (clean clean' : ℕ) (behind behind' : List ℕ) (ss states : List Crash)
    → IsKept bytes clean behind ss → clean' ≡ length bytes → behind' ≡ [] → states ≡ push (synced_unless false) ss → IsKept bytes clean' behind' states
kept_sync bytes clean clean' behind behind' ss states kept is_clean is_behind is =
    let whole : take clean' bytes ++ behind' ≡ bytes = ap (λ (l : List ℕ). take clean' bytes ++ l) is_behind ∙ append-nil (take clean' bytes) ∙ take_all clean' bytes (omega (arith, is_clean)) in
    kept_as bytes clean' behind' (push (synced_unless false) ss) states is (record {
      read = kept.read;
      safe = whole ∙ kept.read;
      within = omega (arith, is_clean);
      stands = still_stands (seen_now ss);
      least = omega arith;
      greatest = omega arith;
    })

-- the disk begins anew behind a sync
pub kept_anew : (bytes : List ℕ) (clean : ℕ) (behind : List ℕ) (olds ss states : List Crash) → IsKept bytes clean behind ss → ss ≡ push synced olds → states ≡ still (seen_now ss) ∷ [] → IsKept bytes clean behind states
kept_anew bytes clean behind olds ss states kept is_synced is =
    let same : (top ss).safe ≡ seen_now ss = ap (λ (l : List Crash). (top l).safe) is_synced ∙ sym (ap seen_now is_synced) in
    kept_as bytes clean behind (still (seen_now ss) ∷ []) states is (record {
      read = kept.read;
      safe = kept.safe ∙ same;
      within = kept.within;
      stands = still_stands (seen_now ss);
      least = omega arith;
      greatest = omega arith;
    })

pub kept_lose : (bytes bytes' : List ℕ) (clean : ℕ) (behind : List ℕ) (ss states : List Crash)
    → IsKept bytes clean behind ss → bytes' ≡ take clean bytes ++ behind → states ≡ push (synced_unless true) ss → IsKept bytes' clean behind states
kept_lose bytes bytes' clean behind ss states kept is_bytes is =
    kept_as bytes' clean behind (push (synced_unless true) ss) states is (record {
      read = is_bytes ∙ kept.safe;
      safe = back_again clean bytes behind bytes' kept.within is_bytes ∙ kept.safe;
      within = back_length clean bytes behind bytes' kept.within is_bytes;
      stands = lost_stands (top ss) kept.least kept.greatest;
      least = kept.least;
      greatest = kept.greatest;
    })

-- bytes that are set aside stand before those that were
pub aside_safe : (bytes behind behind' : List ℕ) (clean at : ℕ) → at ≤ clean → behind' ≡ take (clean - at) (drop at bytes) ++ behind
    → take at bytes ++ behind' ≡ take clean bytes ++ behind
aside_safe bytes behind behind' clean at le is =
    let n : at + (clean - at) ≡ clean = omega (arith, le) in
    ap (λ (l : List ℕ). take at bytes ++ l) is ∙ sym (append_assoc (take at bytes) (take (clean - at) (drop at bytes)) behind)
    ∙ ap (λ (l : List ℕ). l ++ behind) (sym (take-add at (clean - at) bytes)) ∙ ap (λ (k : ℕ). take k bytes ++ behind) n
