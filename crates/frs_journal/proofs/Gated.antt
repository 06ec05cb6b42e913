-- A record is put behind a closed gate.
use Rattle.std.proofs.Common.{◌≡◌, ◌≤◌, ◌<◌, ℕ, suc, ◌+◌, List, [], ◌∷◌, ◌++◌, length, take, drop, refl, sym, ap, ◌∙◌, subst, arith, append_assoc, append-nil, Option, Some, None, get_or, length-append}
use Rattle.std.proofs.lemmas.List.{take-append-drop, take_at, drop_at, take_all}
use Rattle.std.specs.Prelude.{IfSome}
use Rattle.std.proofs.Math.ListN.{drop_of_length-le}
use Rattle.std.proofs.Math.Seq.{split_at}
use Rattle.frs_disk.specs.Crashes.{Crash, IsImage, Leaves, patch, still, synced, Within, wrote}
use Rattle.frs_disk.specs.Moments.{Goes, Now, pushed, seen_now, Stops, top}
use Rattle.frs_disk.proofs.Moments.{goes_map, goes_trans}
use Rattle.frs_disk.proofs.Images.{image_front, image_back, image_length}
use Rattle.frs_journal.specs.Gates.{Shut, Shutting, IsAtRest, Gated, Appending, Appended}

-- a list with a place in it, by its two parts
pub one_more : (at : ℕ) (c : List ℕ) → at < length c → c ≡ take at c ++ get_or c at 0 ∷ drop (at + 1) c
one_more at c lt =
    let e : suc at ≡ at + 1 = omega arith in
    split_at c at 0 lt ∙ ap (λ k. take at c ++ get_or c at 0 ∷ drop k c) e

pub patch_end : (xs body : List ℕ) (at : ℕ) → length xs ≡ at → patch at body xs ≡ xs ++ body
patch_end xs body at len =
    let e : take at xs ≡ xs = take_all at xs (omega (arith, len)) in
    let f : drop (at + length body) xs ≡ [] = drop_of_length-le xs (omega (arith, len)) in
    ap (λ (l : List ℕ). take at xs ++ (body ++ l)) f ∙ ap (λ (l : List ℕ). take at xs ++ l) (append-nil body) ∙ ap (λ (l : List ℕ). l ++ body) e

behind : (front body : List ℕ) (x n : ℕ) → length front ≡ n → drop (n + 1) (front ++ x ∷ body) ≡ body
behind front body x n len =
    ap (λ (l : List ℕ). drop (n + 1) l) (sym (append_assoc front (x ∷ []) body)) ∙ drop_at (front ++ x ∷ []) body (n + 1) (omega (arith, len, length-append front (x ∷ [])))

pub patch_gate : (front body : List ℕ) (x n : ℕ) → length front ≡ n → patch n (1 ∷ []) (front ++ x ∷ body) ≡ front ++ 1 ∷ body
patch_gate front body x n len =
    let e : take n (front ++ x ∷ body) ≡ front = take_at front (x ∷ body) n len in
    let f : drop (n + 1) (front ++ x ∷ body) ≡ body = behind front body x n len in
    ap (λ (l : List ℕ). l ++ (1 ∷ drop (n + 1) (front ++ x ∷ body))) e ∙ ap (λ (l : List ℕ). front ++ 1 ∷ l) f

-- while the body is written
gated_body : (front body c : List ℕ) (x n : ℕ) → (x ≡ 1 → ⊥) → length front ≡ n → IsImage (wrote (n + 1) body (still (front ++ x ∷ []))) c → Gated front body c
gated_body front body c x n closed len image =
    let xs : List ℕ = front ++ x ∷ [] in
    let m : length (front ++ x ∷ []) ≡ n + 1 = omega (arith, len, length-append front (x ∷ [])) in
    let e : take (n + 1) c ≡ front ++ x ∷ [] = image_front (n + 1) body (front ++ x ∷ []) c (omega (arith, m)) image ∙ take_all (n + 1) (front ++ x ∷ []) (omega (arith, m)) in
    let whole : c ≡ (front ++ x ∷ []) ++ drop (n + 1) c = sym (take-append-drop (n + 1) c) ∙ ap (λ (l : List ℕ). l ++ drop (n + 1) c) e in
    record { gate = x; rest = drop (n + 1) c; bytes = whole ∙ append_assoc front (x ∷ []) (drop (n + 1) c); whole = λ h. absurd (closed h) }

-- while the gate is opened
gated_gate : (front body c : List ℕ) (x n : ℕ) → length front ≡ n → IsImage (wrote n (1 ∷ []) (still (front ++ x ∷ body))) c → Gated front body c
gated_gate front body c x n len image =
    let m : length (front ++ x ∷ body) ≡ n + (1 + length body) = omega (arith, len, length-append front (x ∷ body)) in
    let k : length c ≡ length (front ++ x ∷ body) = image_length n (1 ∷ []) (front ++ x ∷ body) c (omega (arith, m)) image in
    let e : take n c ≡ front = image_front n (1 ∷ []) (front ++ x ∷ body) c (omega (arith, m)) image ∙ take_at front (x ∷ body) n len in
    let f : drop (n + 1) c ≡ body = image_back n (1 ∷ []) (front ++ x ∷ body) c (omega (arith, m)) image ∙ behind front body x n len in
    let whole : c ≡ take n c ++ get_or c n 0 ∷ drop (n + 1) c = one_more n c (omega (arith, k, m)) in
    record { gate = get_or c n 0; rest = body; bytes = whole ∙ ap (λ (l : List ℕ). l ++ get_or c n 0 ∷ drop (n + 1) c) e ∙ ap (λ (l : List ℕ). front ++ get_or c n 0 ∷ l) f; whole = λ h. refl }

at_first : (body : List ℕ) (n : ℕ) (s : Crash) → IsAtRest n s → Leaves (Gated (take n s.seen) body) (wrote (n + 1) body s)
at_first body n s rest =
    let P : Crash → Type 0 = λ t. Leaves (Gated (take n t.seen) body) (wrote (n + 1) body t) in
    let Q : List ℕ → Type 0 = λ f. Leaves (Gated f body) (wrote (n + 1) body (still (rest.front ++ rest.closing ∷ []))) in
    subst P (sym rest.state) (subst Q (sym (take_at rest.front (rest.closing ∷ []) n rest.place)) (λ c image. gated_body rest.front body c rest.closing n rest.closed rest.place image))

shut_body : (front body c : List ℕ) (x n : ℕ) → (x ≡ 1 → ⊥) → length front ≡ n → IsImage (wrote (n + 1) body (still (front ++ x ∷ []))) c → Shut front c
shut_body front body c x n closed len image =
    let m : length (front ++ x ∷ []) ≡ n + 1 = omega (arith, len, length-append front (x ∷ [])) in
    let e : take (n + 1) c ≡ front ++ x ∷ [] = image_front (n + 1) body (front ++ x ∷ []) c (omega (arith, m)) image ∙ take_all (n + 1) (front ++ x ∷ []) (omega (arith, m)) in
    let whole : c ≡ (front ++ x ∷ []) ++ drop (n + 1) c = sym (take-append-drop (n + 1) c) ∙ ap (λ (l : List ℕ). l ++ drop (n + 1) c) e in
    record { gate = x; rest = drop (n + 1) c; bytes = whole ∙ append_assoc front (x ∷ []) (drop (n + 1) c); closed = closed }

shut_first : (body : List ℕ) (n : ℕ) (s : Crash) → IsAtRest n s → Leaves (Shut (take n s.seen)) (wrote (n + 1) body s)
shut_first body n s rest =
    let P : Crash → Type 0 = λ t. Leaves (Shut (take n t.seen)) (wrote (n + 1) body t) in
    let Q : List ℕ → Type 0 = λ f. Leaves (Shut f) (wrote (n + 1) body (still (rest.front ++ rest.closing ∷ []))) in
    subst P (sym rest.state) (subst Q (sym (take_at rest.front (rest.closing ∷ []) n rest.place)) (λ c image. shut_body rest.front body c rest.closing n rest.closed rest.place image))

pub shutting : (n : ℕ) (body : List ℕ) (old mid : Option (List Crash)) → Now (IsAtRest n) old → Stops (wrote (n + 1) body) old mid → Shutting n old mid
shutting n body None mid rest stops = stops
shutting n body (Some ss) mid rest stops =
    goes_map (Within (wrote (n + 1) body (top ss))) (Leaves (Shut (take n (seen_now ss)))) (Some ss) mid
    (λ s within. λ c image. shut_first body n (top ss) rest c (within.images c image)) stops

pub first_seen : (body front : List ℕ) (x n : ℕ) → length front ≡ n → synced (wrote (n + 1) body (still (front ++ x ∷ []))) ≡ still (front ++ x ∷ body)
first_seen body front x n len = ap still (patch_end (front ++ x ∷ []) body (n + 1) (omega (arith, len, length-append front (x ∷ []))) ∙ append_assoc front (x ∷ []) body)

at_second : (body : List ℕ) (n : ℕ) (s : Crash) → IsAtRest n s → Leaves (Gated (take n s.seen) body) (wrote n (1 ∷ []) (synced (wrote (n + 1) body s)))
at_second body n s rest =
    let P : Crash → Type 0 = λ t. Leaves (Gated (take n t.seen) body) (wrote n (1 ∷ []) (synced (wrote (n + 1) body t))) in
    let Q : List ℕ → Type 0 = λ f. Leaves (Gated f body) (wrote n (1 ∷ []) (synced (wrote (n + 1) body (still (rest.front ++ rest.closing ∷ []))))) in
    let R : Crash → Type 0 = λ t. Leaves (Gated rest.front body) (wrote n (1 ∷ []) t) in
    subst P (sym rest.state) (subst Q (sym (take_at rest.front (rest.closing ∷ []) n rest.place)) (subst R (sym (first_seen body rest.front rest.closing n rest.place)) (λ c image. gated_gate rest.front body c rest.closing n rest.place image)))

at_end : (body : List ℕ) (n : ℕ) (s : Crash) → IsAtRest n s → synced (wrote n (1 ∷ []) (synced (wrote (n + 1) body s))) ≡ still (take n s.seen ++ 1 ∷ body)
at_end body n s rest =
    let P : Crash → Type 0 = λ t. synced (wrote n (1 ∷ []) (synced (wrote (n + 1) body t))) ≡ still (take n t.seen ++ 1 ∷ body) in
    subst P (sym rest.state)
    (ap (λ t. synced (wrote n (1 ∷ []) t)) (first_seen body rest.front rest.closing n rest.place)
    ∙ ap still (patch_gate rest.front body rest.closing n rest.place)
    ∙ ap (λ (f : List ℕ). still (f ++ 1 ∷ body)) (sym (take_at rest.front (rest.closing ∷ []) n rest.place)))

-- up to the body's sync
pub appending_first : (n : ℕ) (body : List ℕ) (old mid : Option (List Crash)) → Now (IsAtRest n) old → Stops (wrote (n + 1) body) old mid → Appending n body old mid
appending_first n body None mid rest stops = stops
appending_first n body (Some ss) mid rest stops =
    let first = at_first body n (top ss) rest in
    goes_map (Within (wrote (n + 1) body (top ss))) (Leaves (Gated (take n (seen_now ss)) body)) (Some ss) mid
    (λ s within. λ c image. first c (within.images c image)) stops

-- from there on
pub appending_second : (n : ℕ) (body : List ℕ) (old mid new : Option (List Crash)) → Now (IsAtRest n) old → Stops (wrote (n + 1) body) old mid
    → mid ≡ pushed synced (pushed (wrote (n + 1) body) old) → Stops (wrote n (1 ∷ [])) mid new → Appending n body old new
appending_second n body None mid new rest stops is on = let P : Option (List Crash) → Type 0 = λ o. Stops (wrote n (1 ∷ [])) o new in subst P is on
appending_second n body (Some ss) mid new rest stops is on =
    let Q : Crash → Type 0 = Leaves (Gated (take n (seen_now ss)) body) in
    let second = at_second body n (top ss) rest in
    let P : Option (List Crash) → Type 0 = λ o. Stops (wrote n (1 ∷ [])) o new in
    let R : Option (List Crash) → Type 0 = λ o. Goes Q o new in
    let at : Goes Q mid new = subst R (sym is)
    (goes_map (Within (wrote n (1 ∷ []) (synced (wrote (n + 1) body (top ss))))) Q (pushed synced (pushed (wrote (n + 1) body) (Some ss))) new
    (λ s within. λ c image. second c (within.images c image)) (subst P is on)) in
    goes_trans Q (Some ss) mid new (appending_first n body (Some ss) mid rest stops) at

pub appended : (n : ℕ) (body : List ℕ) (old mid new : Option (List Crash)) → Now (IsAtRest n) old
    → mid ≡ pushed synced (pushed (wrote (n + 1) body) old) → new ≡ pushed synced (pushed (wrote n (1 ∷ [])) mid) → Appended n body old new
appended n body None mid new rest is on = on ∙ ap (λ o. pushed synced (pushed (wrote n (1 ∷ [])) o)) is
appended n body (Some ss) mid new rest is on =
    let s : Crash = wrote (n + 1) body (top ss) in
    let more : List Crash = wrote n (1 ∷ []) (synced s) ∷ synced s ∷ s ∷ ss in
    (more, on ∙ ap (λ o. pushed synced (pushed (wrote n (1 ∷ [])) o)) is ∙ ap (λ t. Some (t ∷ more)) (at_end body n (top ss) rest))

-- the slot can take the second write
pub second_within : (n : ℕ) (body : List ℕ) (old mid : Option (List Crash)) → Now (IsAtRest n) old → mid ≡ pushed synced (pushed (wrote (n + 1) body) old)
    → IfSome mid (λ ss. n ≤ length (seen_now ss))
second_within n body None mid rest is = let P : Option (List Crash) → Type 0 = λ o. IfSome o (λ ss. n ≤ length (seen_now ss)) in subst P (sym is) tt
second_within n body (Some ss) mid rest is =
    let P : Option (List Crash) → Type 0 = λ o. IfSome o (λ ss. n ≤ length (seen_now ss)) in
    let e : seen_now (wrote (n + 1) body (top ss) ∷ []) ≡ rest.front ++ rest.closing ∷ body = ap (λ t. (synced (wrote (n + 1) body t)).seen) rest.state ∙ ap (λ (t : Crash). t.seen) (first_seen body rest.front rest.closing n rest.place) in
    subst P (sym is) (omega (arith, ap length e, rest.place, length-append rest.front (rest.closing ∷ body)))

pub first_within : (n : ℕ) (old : Option (List Crash)) → Now (IsAtRest n) old → IfSome old (λ ss. n + 1 ≤ length (seen_now ss))
first_within n None rest = tt
first_within n (Some ss) rest =
    let e : (top ss).seen ≡ rest.front ++ rest.closing ∷ [] = ap (λ (t : Crash). t.seen) rest.state in
    omega (arith, ap length e, rest.place, length-append rest.front (rest.closing ∷ []))
