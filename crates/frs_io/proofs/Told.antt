-- How steps on told bytes are joined.
use Rattle.std.proofs.Common.{◌≡◌, ℕ, ◌+◌, List, [], ◌++◌, length, take, drop, None, Some, IfSome, refl, sym, ap, ◌∙◌, subst, append_assoc, append-nil, take-append-drop}
use Rattle.std.proofs.Math.Seq.{take-append-add, take-append_seam, take-length, drop-append_seam}
use Rattle.std.specs.declared.option.Option.{Option}
use Rattle.std.specs.Option.{option_map}
use Rattle.std.specs.Io.KnownBytes.{prepend_known, append_known, IsAtEnd}
use Rattle.frs_io.specs.Told.{Gives, GivesSome, Takes, TakesSome}

pub append_known-append : (told : Option (List ℕ)) (xs ys : List ℕ) → append_known told (xs ++ ys) ≡ append_known (append_known told xs) ys
append_known-append None xs ys = refl
append_known-append (Some zs) xs ys = ap Some (sym (append_assoc zs xs ys))

pub prepend_known-append : (told : Option (List ℕ)) (xs ys : List ℕ) → prepend_known (xs ++ ys) told ≡ prepend_known xs (prepend_known ys told)
prepend_known-append None xs ys = refl
prepend_known-append (Some zs) xs ys = ap Some (append_assoc xs ys zs)

pub drop-prepend_known : (told : Option (List ℕ)) (xs : List ℕ) → option_map (drop (length xs)) (prepend_known xs told) ≡ told
drop-prepend_known None xs = refl
drop-prepend_known (Some zs) xs = ap Some (drop-append_seam xs zs)

-- ---- sinks

pub Takes-nil : (told : Option (List ℕ)) → Takes told told []
Takes-nil None = refl
Takes-nil (Some xs) = ap Some (sym (append-nil xs))

pub Takes-trans : (a b c : Option (List ℕ)) (xs ys : List ℕ) → Takes a b xs → Takes b c ys → Takes a c (xs ++ ys)
Takes-trans a b c xs ys first second =
    second ∙ ap (λ told. append_known told ys) first ∙ sym (append_known-append a xs ys)

-- what took nothing took some first bytes
pub TakesSome-none : (old new : Option (List ℕ)) (xs : List ℕ) → new ≡ old → TakesSome old new xs
TakesSome-none old new xs same = (0, same ∙ Takes-nil old)

-- all is some
pub TakesSome-of_Takes : (old new : Option (List ℕ)) (xs : List ℕ) → Takes old new xs → TakesSome old new xs
TakesSome-of_Takes old new xs all = (length xs, all ∙ ap (append_known old) (sym (take-length xs)))

-- all of one, then some of the next, is some of both
pub Takes-TakesSome : (a b c : Option (List ℕ)) (xs ys : List ℕ) → Takes a b xs → TakesSome b c ys → TakesSome a c (xs ++ ys)
Takes-TakesSome a b c xs ys first (n, second) =
    (length xs + n, Takes-trans a b c xs (take n ys) first second ∙ ap (append_known a) (sym (take-append-add xs ys n)))

-- some of one is some of what begins with it
pub TakesSome-append : (old new : Option (List ℕ)) (xs ys : List ℕ) → TakesSome old new xs → TakesSome old new (xs ++ ys)
TakesSome-append old new xs ys (n, some) =
    let parts : xs ++ ys ≡ take n xs ++ (drop n xs ++ ys) = ap (λ l. l ++ ys) (sym (take-append-drop n xs)) ∙ append_assoc (take n xs) (drop n xs) ys in
    let same : take n xs ≡ take (length (take n xs)) (xs ++ ys) =
    sym (ap (take (length (take n xs))) parts ∙ take-append_seam (take n xs) (drop n xs ++ ys)) in
    (length (take n xs), some ∙ ap (append_known old) same)

-- ---- sources

pub Gives-nil : (told : Option (List ℕ)) → Gives told told []
Gives-nil None = refl
Gives-nil (Some xs) = refl

pub Gives-trans : (a b c : Option (List ℕ)) (xs ys : List ℕ) → Gives a b xs → Gives b c ys → Gives a c (xs ++ ys)
Gives-trans a b c xs ys first second =
    first ∙ ap (prepend_known xs) second ∙ sym (prepend_known-append c xs ys)

-- what was given is some
pub GivesSome-of_Gives : (old new : Option (List ℕ)) (xs : List ℕ) → Gives old new xs → GivesSome old new
GivesSome-of_Gives old new xs given = (length xs, sym (ap (option_map (drop (length xs))) given ∙ drop-prepend_known new xs))

-- what a source gave up to its end is all that it had
pub at_known : (old new : Option (List ℕ)) (xs : List ℕ) (P : List ℕ → Type 0) → Gives old new xs → IsAtEnd new → P xs → IfSome old P
at_known old None xs P given end holds = subst (λ told. IfSome told P) (sym given) tt
at_known old (Some ys) xs P given end holds =
    subst (λ told. IfSome told P) (sym (given ∙ ap (λ l. Some (xs ++ l)) end ∙ ap Some (append-nil xs))) holds
