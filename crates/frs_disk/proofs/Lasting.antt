-- What holds at every moment since.
use Rattle.std.proofs.Common.{◌≡◌, ℕ, List, [], ◌∷◌, ◌++◌, length, refl, sym, ap, ◌∙◌, subst, inl, inr, Option, Some, None, arith, length-append}
use Rattle.std.proofs.lemmas.List.{append_cancel_right}
use Rattle.frs_disk.specs.Crashes.{Crash, IsImage}
use Rattle.frs_disk.specs.Moments.{top, Now, Each, Since, IsMoment, IsNewest, MayLeave, MightLeave}

some_same : {X : Type 0} (x y : X) → Some x ≡ Some y → x ≡ y
some_same x y e = cc

each_at : (P : Crash → Type 0) (xs : List Crash) (s : Crash) (ys : List Crash) → Each P (xs ++ s ∷ ys) → P s
each_at P [] s ys h = h.0
each_at P (x ∷ xs) s ys h = each_at P xs s ys h.1

-- what holds now and of each state since holds of the newest
pub since_now : (P : Crash → Type 0) (old new : Option (List Crash)) → Since P old new → Now P new
since_now P None new since = subst (Now P) (sym since.1) tt
since_now P (Some ss) new (first, (added, is, each)) = subst (Now P) (sym is) (last added each)
  where
    last : (xs : List Crash) → Each P xs → Now P (Some (xs ++ ss))
    last [] h = first
    last (x ∷ xs) h = h.0

newest_at : (P : Crash → Type 0) (new : Option (List Crash)) (s : Crash) → Now P new → IsNewest new s → P s
newest_at P None s now h = absurd h
newest_at P (Some ss) s now h = subst P (sym h) now

-- and it holds at each moment
pub since_at : (P : Crash → Type 0) (old new : Option (List Crash)) (s : Crash) → Since P old new → IsMoment old new s → P s
since_at P None new s since h = absurd h
since_at P (Some ss) new s since (inl is) = subst P (sym is) since.0
since_at P (Some ss) new s since (inr (inl (later, sooner, is))) =
    let h = since.1 in
    let same : h.0 ≡ later ++ s ∷ sooner = append_cancel_right h.0 (later ++ s ∷ sooner) ss (some_same (h.0 ++ ss) ((later ++ s ∷ sooner) ++ ss) (sym h.1 ∙ is)) in
    each_at P later s sooner (subst (Each P) same h.2)
since_at P (Some ss) new s since (inr (inr newest)) = newest_at P new s (since_now P (Some ss) new since) newest

-- each image that a crash now may leave is so
pub now_at : (Q : List ℕ → Type 0) (o : Option (List Crash)) (c : List ℕ) → Now (λ s. (c : List ℕ) → IsImage s c → Q c) o → MayLeave o c → Q c
now_at Q None c h k = absurd k
now_at Q (Some ss) c h k = h c k

-- what a crash may leave now is one of those that a crash at some moment since might have left
pub now_might : (ss : List Crash) (new : Option (List Crash)) (c : List ℕ) → MayLeave new c → MightLeave (Some ss) new c
now_might ss None c h = absurd h
now_might ss (Some ts) c h = (top ts, inr (inr refl), h)

-- where nothing was done, what might have been left may be left now
pub same_might : (a : Option (List Crash)) (c : List ℕ) → MightLeave a a c → MayLeave a c
same_might None c (s, m, image) = absurd m
same_might (Some ss) c (s, inl is, image) = let P : Crash → Type 0 = λ t. IsImage t c in subst P is image
same_might (Some ss) c (s, inr (inl (later, sooner, is)), image) =
    let e = some_same ss ((later ++ s ∷ sooner) ++ ss) is in
    absurd (omega (arith, ap length e, length-append (later ++ s ∷ sooner) ss, length-append later (s ∷ sooner)))
same_might (Some ss) c (s, inr (inr is), image) = let P : Crash → Type 0 = λ t. IsImage t c in subst P is image
