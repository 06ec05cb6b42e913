-- The last local record of a UID at or past a USN.
use Rattle.std.proofs.Common.{◌≡◌, ◌+◌, ◌-◌, ◌<◌, ◌≤◌, ◌&&◌, ◌⊎◌, inl, inr, ℕ, zero, suc, Bool, true, false, eqb, leb, List, [], ◌∷◌, ◌++◌, drop, Option, Some, None, refl, sym, ap, ◌∙◌, subst, arith}
use Rattle.std.proofs.lemmas.Bool.Decides.{nat_tests, eqb_tells}
use Rattle.std.proofs.lemmas.Bool.{false≢true}
use Rattle.std.specs.Prelude.{filter, if◌then◌else◌}
use Rattle.frs_base.specs.declared.version.Uid.{Uid}
use Rattle.frs_base.specs.Versions.{same_uid}
use Rattle.vol_state.specs.declared.record.VolRecord.{VolRecord}
use Rattle.vol_state.specs.Journal.{RunsFrom, last_local, later_or, pending_local, record_at}
use Rattle.vol_state.specs.Pending.{IsLastPending, PendingIsLast}
use Rattle.vol_state.proofs.Climbing.{by_cases, differ}
use Rattle.vol_state.proofs.Volumes.{both, is_same}
use Rattle.vol_state.proofs.Walks.{same_is}
use Rattle.vol_state.proofs.Runs.{none_before}

-- it is a local one of the UID, at or past a USN
abbrev pub is_pending : Uid → ℕ → VolRecord → Bool
is_pending uid from r = leb from r.usn && (r.local && same_uid r.uid uid)

-- ---- record by record

later_no : (later : Option ℕ) (usn : ℕ) → later ≡ later_or later usn false
later_no None usn = refl
later_no (Some n) usn = refl

pending_cons : (r : VolRecord) (rs : List VolRecord) (uid : Uid) (from : ℕ) → pending_local (r ∷ rs) uid from ≡ later_or (pending_local rs uid from) r.usn (is_pending uid from r)
pending_cons r rs uid from = go (leb from r.usn)
  where
    go : (b : Bool) → last_local (if b then r ∷ filter (λ x. leb from x.usn) rs else filter (λ x. leb from x.usn) rs) uid ≡ later_or (pending_local rs uid from) r.usn (b && (r.local && same_uid r.uid uid))
    go true = refl
    go false = later_no (pending_local rs uid from) r.usn

-- the last record decides, where it is one
pub pending_push : (rs : List VolRecord) (r : VolRecord) (uid : Uid) (from : ℕ) → is_pending uid from r ≡ true → pending_local (rs ++ r ∷ []) uid from ≡ Some r.usn
pending_push [] r uid from e = pending_cons r [] uid from ∙ ap (later_or None r.usn) e
pending_push (x ∷ rs) r uid from e = pending_cons x (rs ++ r ∷ []) uid from ∙ ap (λ l. later_or l x.usn (is_pending uid from x)) (pending_push rs r uid from e)

pub pending_other : (rs : List VolRecord) (r : VolRecord) (uid : Uid) (from : ℕ) → is_pending uid from r ≡ false → pending_local (rs ++ r ∷ []) uid from ≡ pending_local rs uid from
pending_other [] r uid from e = pending_cons r [] uid from ∙ ap (later_or None r.usn) e
pending_other (x ∷ rs) r uid from e = pending_cons x (rs ++ r ∷ []) uid from ∙ ap (λ l. later_or l x.usn (is_pending uid from x)) (pending_other rs r uid from e) ∙ sym (pending_cons x rs uid from)

-- all are at or past 0
all_from : (rs : List VolRecord) → filter (λ r. leb 0 r.usn) rs ≡ rs
all_from [] = refl
all_from (r ∷ rs) = let e : leb 0 r.usn ≡ true = grind (arith, nat_tests) in rw e (ap (λ xs. r ∷ xs) (all_from rs))

pub pending_all : (rs : List VolRecord) (uid : Uid) → pending_local rs uid 0 ≡ last_local rs uid
pending_all rs uid = ap (λ xs. last_local xs uid) (all_from rs)

-- ---- a run of USNs

-- those that are left out are before the USN
pub run_from : (low from k : ℕ) (rs : List VolRecord) → RunsFrom low rs → k ≤ from - low → filter (λ r. leb from r.usn) (drop k rs) ≡ filter (λ r. leb from r.usn) rs
run_from low from zero rs h le = refl
run_from low from (suc k) [] h le = refl
run_from low from (suc k) (r ∷ rs) h le =
    let first = h.0 in
    let e : leb from r.usn ≡ false = grind (arith, nat_tests) in
    run_from (low + 1) from k rs h.1 (omega arith) ∙ sym (ap (λ b. if b then r ∷ filter (λ x. leb from x.usn) rs else filter (λ x. leb from x.usn) rs) e)

-- ---- over a map

-- the record with this USN is a local one of the UID, at or past from
abbrev pub IsPendingIn : List VolRecord → Uid → ℕ → ℕ → Type 0
IsPendingIn rs uid from usn = (r : VolRecord) × (record_at rs usn ≡ Some r) × (from ≤ usn) × (r.local ≡ true) × (r.uid ≡ uid)

abbrev pub IsLastIn : List VolRecord → Uid → ℕ → Option ℕ → Type 0
IsLastIn rs uid from None = (usn : ℕ) → IsPendingIn rs uid from usn → ⊥
IsLastIn rs uid from (Some last) = IsPendingIn rs uid from last × ((usn : ℕ) → IsPendingIn rs uid from usn → usn ≤ last)

-- a record of the rest has a later USN
past : (low usn : ℕ) (r : VolRecord) (rs : List VolRecord) → RunsFrom low rs → record_at rs usn ≡ Some r → low ≤ usn
past low usn r rs h e = by_cases (less usn low) (λ l. absurd (none_some (sym (none_before low usn l rs h) ∙ e))) (λ le. le)
  where
    none_some : None ≡ Some r → ⊥
    none_some e = absurd (cc)

    less : (a b : ℕ) → (a < b) ⊎ (b ≤ a)
    less a b = go (leb b a) refl
      where
        go : (t : Bool) → leb b a ≡ t → (a < b) ⊎ (b ≤ a)
        go true e = inr (grind (arith, nat_tests))
        go false e = inl (grind (arith, nat_tests))

last_in : (low : ℕ) (rs : List VolRecord) (uid : Uid) (from : ℕ) → RunsFrom low rs → IsLastIn rs uid from (pending_local rs uid from)
last_in low [] uid from h = λ usn p. none_some p.0 p.1
  where
    none_some : (r : VolRecord) → None ≡ Some r → ⊥
    none_some r e = absurd (cc)
last_in low (r ∷ rs) uid from h = subst (IsLastIn (r ∷ rs) uid from) (sym (pending_cons r rs uid from)) (go (pending_local rs uid from) (last_in (low + 1) rs uid from h.1))
  where
    here : record_at (r ∷ rs) r.usn ≡ Some r
    here = let e : eqb r.usn r.usn ≡ true = grind (arith, nat_tests) in rw e refl

    -- what is in the rest is in the whole
    more : (usn : ℕ) → IsPendingIn rs uid from usn → IsPendingIn (r ∷ rs) uid from usn
    more usn p =
        let l = past (low + 1) usn p.0 rs h.1 p.1 in
        let first = h.0 in
        let off = differ r.usn usn (λ e. omega arith) in
        (p.0, rw off p.1, p.2, p.3, p.4)

    some_same : (a b : VolRecord) → Some a ≡ Some b → a ≡ b
    some_same a b e = cc

    -- and what is in the whole is the first, or in the rest
    one : (usn : ℕ) → IsPendingIn (r ∷ rs) uid from usn → ((usn ≡ r.usn) × (is_pending uid from r ≡ true)) ⊎ IsPendingIn rs uid from usn
    one usn p =
        by_cases (eqb_tells r.usn usn)
        (λ t. let same : r ≡ p.0 = some_same r p.0 (sym (ap (λ b. if b then Some r else record_at rs usn) t.0) ∙ p.1) in
        let le = p.2 in
        let is = t.1 in
        let from_le : leb from r.usn ≡ true = grind (arith, nat_tests) in
        let local : r.local ≡ true = ap (λ x. x.local) same ∙ p.3 in
        let named : same_uid r.uid uid ≡ true = ap (λ x. same_uid x.uid uid) same ∙ ap (λ u. same_uid u uid) p.4 ∙ is_same uid in
        inl (sym t.1, rw from_le (rw local named)))
        (λ t. inr (p.0, sym (ap (λ b. if b then Some r else record_at rs usn) t.0) ∙ p.1, p.2, p.3, p.4))

    found : is_pending uid from r ≡ true → IsPendingIn (r ∷ rs) uid from r.usn
    found e =
        let (le, rest) = both (leb from r.usn) (r.local && same_uid r.uid uid) e in
        let (local, named) = both r.local (same_uid r.uid uid) rest in
        (r, here, grind (arith, nat_tests), local, same_is r.uid uid named)

    tested : (b : Bool) → is_pending uid from r ≡ b → ((usn : ℕ) → IsPendingIn rs uid from usn → ⊥) → IsLastIn (r ∷ rs) uid from (if b then Some r.usn else None)
    tested true e none = (found e, λ usn p. by_cases (one usn p) (λ t. let is = t.0 in omega arith) (λ q. absurd (none usn q)))
    tested false e none = λ usn p. by_cases (one usn p) (λ t. false≢true (sym e ∙ t.1)) (λ q. none usn q)

    go : (later : Option ℕ) → IsLastIn rs uid from later → IsLastIn (r ∷ rs) uid from (later_or later r.usn (is_pending uid from r))
    go None l = tested (is_pending uid from r) refl l
    go (Some last) l = (
      more last l.0,
      λ usn p. by_cases (one usn p)
          (λ t. let low_le = past (low + 1) last l.0.0 rs h.1 l.0.1 in let first = h.0 in let is = t.0 in omega arith)
          (λ q. l.1 usn q),
    )

pub pending_is_last : PendingIsLast
pending_is_last v m uid from h s = go (pending_local v.journal uid from) (last_in 9 v.journal uid from h.run)
  where
    go : (last : Option ℕ) → IsLastIn v.journal uid from last → IsLastPending m uid from last
    go None l = λ usn p. l usn (p.0, sym (s.entries usn) ∙ p.1, p.2, p.3, p.4)
    go (Some last) l = ((l.0.0, s.entries last ∙ l.0.1, l.0.2, l.0.3, l.0.4), λ usn p. l.1 usn (p.0, sym (s.entries usn) ∙ p.1, p.2, p.3, p.4))
