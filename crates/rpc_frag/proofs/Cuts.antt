-- Where more bytes change nothing that was said, cuts don't matter.
use Rattle.std.proofs.Common.{◌≡◌, ℕ, zero, suc, ◌+◌, ◌≤◌, List, [], ◌∷◌, ◌++◌, Some, None, Result, Ok, Err, refl, sym, ap, subst, ◌∙◌, append_assoc, drop, length, inl, inr}
use Rattle.std.specs.Prelude.{◌⊎◌}
use Rattle.std.specs.List.{AllByRecursion}
use Rattle.std.proofs.lemmas.List.{append-nil, drop-append-le, get_or-drop}
use Rattle.ndr_core.specs.Cursor.{Cursor}
use Rattle.ndr_core.specs.Items.{AreBytes}
use Rattle.rpc_frag.specs.Streams.{IsSteady, Next, AnyCut, Bad, Ends, Fed, OneReading, more, whole}

some_stays : {A E : Type 0} (next : Next A E) → IsSteady next → (bytes piece : List ℕ) (a : A) (n : ℕ) → AreBytes bytes → next bytes ≡ Ok (Some (a, n)) → next (bytes ++ piece) ≡ Ok (Some (a, n))
some_stays next is bytes piece a n are e =
    elim (is.stays bytes piece are) [
      | inl none ↦ let h : next bytes ≡ Ok None = none in absurd cc
      | inr same ↦ same ∙ e
    ]

bad_stays : {A E : Type 0} (next : Next A E) → IsSteady next → (bytes piece : List ℕ) (e : E) → AreBytes bytes → next bytes ≡ Err e → next (bytes ++ piece) ≡ Err e
bad_stays next is bytes piece e are h =
    elim (is.stays bytes piece are) [
      | inl none ↦ let k : next bytes ≡ Ok None = none in absurd cc
      | inr same ↦ same ∙ h
    ]

AreBytes-drop : (n : ℕ) (bytes : List ℕ) → AreBytes bytes → AreBytes (drop n bytes)
AreBytes-drop n bytes h i = rw get_or-drop (h (n + i))

-- what follows a rest follows the whole
pub goes_on : {A E : Type 0} (next : Next A E) → IsSteady next → (c d : Cursor) (vs bs : List A) (piece : List ℕ) (end : Result Cursor (Bad E)) → AreBytes c.rest → Ends next c vs (Ok d) → Ends next (more d piece) bs end → Ends next (more c piece) (vs ++ bs) end
goes_on next is c d [] bs piece end are now later = subst (λ (x : Cursor). Ends next (more x piece) bs end) (sym now.0) later
goes_on {A = A} {E = E} next is c d (a ∷ vs) bs piece end are now later =
    let le : now.0 ≤ length c.rest = is.there c.rest a now.0 now.1 in
    let rest = goes_on next is (record { at = c.at + now.0; rest = drop now.0 c.rest }) d vs bs piece end (AreBytes-drop now.0 c.rest are) now.2 later in
    (now.0, some_stays next is c.rest piece a now.0 are now.1, subst (λ (r : List ℕ). Ends next (record { at = c.at + now.0; rest = r }) (vs ++ bs) end) (sym (drop-append-le now.0 c.rest piece le)) rest)

-- and after a refusal nothing changes
pub stays_bad : {A E : Type 0} (next : Next A E) → IsSteady next → (c : Cursor) (vs : List A) (piece : List ℕ) (bad : Bad E) → AreBytes c.rest → Ends next c vs (Err bad) → Ends next (more c piece) vs (Err bad)
stays_bad next is c [] piece bad are ends = (ends.0, bad_stays next is c.rest piece bad.why are ends.1)
stays_bad {A = A} {E = E} next is c (a ∷ vs) piece bad are ends =
    let le : ends.0 ≤ length c.rest = is.there c.rest a ends.0 ends.1 in
    let rest = stays_bad next is (record { at = c.at + ends.0; rest = drop ends.0 c.rest }) vs piece bad (AreBytes-drop ends.0 c.rest are) ends.2 in
    (ends.0, some_stays next is c.rest piece a ends.0 are ends.1, subst (λ (r : List ℕ). Ends next (record { at = c.at + ends.0; rest = r }) vs (Err bad)) (sym (drop-append-le ends.0 c.rest piece le)) rest)

-- what a reading leaves is the end of what it began with
rest_are : {A E : Type 0} (next : Next A E) (c d : Cursor) (vs : List A) → AreBytes c.rest → Ends next c vs (Ok d) → AreBytes d.rest
rest_are next c d [] are now = subst (λ (x : Cursor). AreBytes x.rest) now.0 are
rest_are next c d (a ∷ vs) are now = rest_are next (record { at = c.at + now.0; rest = drop now.0 c.rest }) d vs (AreBytes-drop now.0 c.rest are) now.2

pub one_reading : {A E : Type 0} (next : Next A E) → OneReading next
one_reading next c [] [] (Ok d) (Ok f) x y = (refl, ap Ok (sym x.0 ∙ y.0))
one_reading next c [] [] (Ok d) (Err f) x y = let p : next c.rest ≡ Ok None = x.1 in let q : next c.rest ≡ Err f.why = y.1 in absurd cc
one_reading next c [] [] (Err e) (Ok f) x y = let p : next c.rest ≡ Err e.why = x.1 in let q : next c.rest ≡ Ok None = y.1 in absurd cc
one_reading {A = A} {E = E} next c [] [] (Err e) (Err f) x y =
    let p : next c.rest ≡ Err e.why = x.1 in
    let q : next c.rest ≡ Err f.why = y.1 in
    let same : e.why ≡ f.why = cc in
    let place : e.at ≡ f.at = sym x.0 ∙ y.0 in
    let both : e ≡ f = λ i. record { at = place i; why = same i } in
    (refl, ap Err both)
one_reading next c [] (b ∷ bs) (Ok d) other x y = let p : next c.rest ≡ Ok None = x.1 in let q : next c.rest ≡ Ok (Some (b, y.0)) = y.1 in absurd cc
one_reading next c [] (b ∷ bs) (Err e) other x y = let p : next c.rest ≡ Err e.why = x.1 in let q : next c.rest ≡ Ok (Some (b, y.0)) = y.1 in absurd cc
one_reading next c (a ∷ vs) [] end (Ok d) x y = let p : next c.rest ≡ Ok None = y.1 in let q : next c.rest ≡ Ok (Some (a, x.0)) = x.1 in absurd cc
one_reading next c (a ∷ vs) [] end (Err e) x y = let p : next c.rest ≡ Err e.why = y.1 in let q : next c.rest ≡ Ok (Some (a, x.0)) = x.1 in absurd cc
one_reading {A = A} {E = E} next c (a ∷ vs) (b ∷ bs) end other x y =
    let p : next c.rest ≡ Ok (Some (a, x.0)) = x.1 in
    let q : next c.rest ≡ Ok (Some (b, y.0)) = y.1 in
    let pair : (a, x.0) ≡ (b, y.0) = cc in
    let same : a ≡ b = ap (λ (t : A × ℕ). t.0) pair in
    let size : x.0 ≡ y.0 = ap (λ (t : A × ℕ). t.1) pair in
    let r = one_reading next (record { at = c.at + x.0; rest = drop x.0 c.rest }) vs bs end other x.2 (subst (λ (n : ℕ). Ends next (record { at = c.at + n; rest = drop n c.rest }) bs other) (sym size) y.2) in
    let front : vs ≡ bs = r.0 in
    (cc, r.1)

are_both : (xs ys : List ℕ) → AreBytes xs → AreBytes ys → AreBytes (xs ++ ys)
are_both [] ys are more i = more i
are_both (x ∷ xs) ys are more zero = are 0
are_both (x ∷ xs) ys are more (suc i) = are_both xs ys (λ k. are (suc k)) more i

-- a reading leaves nothing whole
rest_none : {A E : Type 0} (next : Next A E) (c d : Cursor) (vs : List A) → Ends next c vs (Ok d) → next d.rest ≡ Ok None
rest_none {A = A} {E = E} next c d [] now = subst (λ (x : Cursor). next x.rest ≡ Ok None) now.0 now.1
rest_none next c d (a ∷ vs) now = rest_none next (record { at = c.at + now.0; rest = drop now.0 c.rest }) d vs now.2

bad_for_good : {A E : Type 0} (next : Next A E) (bad : Bad E) (pieces : List (List ℕ)) (vs : List A) (end : Result Cursor (Bad E)) → Fed next (Err bad) pieces vs end → (vs ≡ []) × (Err bad ≡ end)
bad_for_good next bad [] vs end fed = fed
bad_for_good next bad (piece ∷ pieces) vs end fed = fed

by_state : {A E : Type 0} (next : Next A E) → IsSteady next → (c : Cursor) (pieces : List (List ℕ)) (now later : List A) (state end : Result Cursor (Bad E)) → AreBytes c.rest → AllByRecursion AreBytes pieces
    → Ends next c now state → Fed next state pieces later end → Ends next (more c (whole pieces)) (now ++ later) end
by_state {A = A} {E = E} next is c [] now later state end are ares ends fed =
    let e : now ++ later ≡ now = ap (λ (xs : List A). now ++ xs) fed.0 ∙ append-nil now in
    let same : more c [] ≡ c = ap (λ (r : List ℕ). record { at = c.at; rest = r }) (append-nil c.rest) in
    subst (λ (x : Cursor). Ends next x (now ++ later) end) (sym same) (subst (λ (xs : List A). Ends next c xs end) (sym e) (subst (λ (s : Result Cursor (Bad E)). Ends next c now s) fed.1 ends))
by_state {A = A} {E = E} next is c (piece ∷ pieces) now later (Ok d) end are ares ends fed =
    let d_are : AreBytes d.rest = rest_are next c d now are ends in
    let inner = by_state next is (more d piece) pieces fed.0 fed.1 fed.2 end (are_both d.rest piece d_are ares.0) ares.1 fed.4 fed.5 in
    let regroup : more (more d piece) (whole pieces) ≡ more d (whole (piece ∷ pieces)) = ap (λ (r : List ℕ). record { at = d.at; rest = r }) (append_assoc d.rest piece (whole pieces)) in
    let moved : Ends next (more d (whole (piece ∷ pieces))) later end = subst (λ (x : Cursor). Ends next x later end) regroup (subst (λ (xs : List A). Ends next (more (more d piece) (whole pieces)) xs end) (sym fed.3) inner) in
    goes_on next is c d now later (whole (piece ∷ pieces)) end are ends moved
by_state {A = A} {E = E} next is c (piece ∷ pieces) now later (Err bad) end are ares ends fed =
    let e : now ++ later ≡ now = ap (λ (xs : List A). now ++ xs) fed.0 ∙ append-nil now in
    let kept = stays_bad next is c now (whole (piece ∷ pieces)) bad are ends in
    subst (λ (xs : List A). Ends next (more c (whole (piece ∷ pieces))) xs end) (sym e) (subst (λ (s : Result Cursor (Bad E)). Ends next (more c (whole (piece ∷ pieces))) now s) fed.1 kept)

pub any_cut : {A E : Type 0} (next : Next A E) → IsSteady next → AnyCut next
any_cut next is c pieces vs end are ares none fed = by_state next is c pieces [] vs (Ok c) end are ares (refl, none) fed
