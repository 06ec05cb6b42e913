-- All that is left of a journal is consumed, one record after the other.
use Rattle.std.proofs.Common.{◌≡◌, ◌++◌, ℕ, List, [], ◌∷◌, refl, sym, ap, subst, inl, inr, Option, Some, None, Result, Ok, Err, append-nil}
use Rattle.std.specs.Prelude.{option_to_list}
use Rattle.world_model.specs.World.{World}
use Rattle.script_engine.specs.declared.consumed.Consumed.{Consumed}
use Rattle.script_engine.specs.declared.refusal.Refusal.{Refusal}
use Rattle.script_engine.specs.declared.refusal.Refusal.TheVariants.{VectorFull}
use Rattle.script_engine.specs.Begun.{ConsumesSome}
use Rattle.script_engine.specs.Consuming.{ConsumesAll, ConsumesNext, ConsumesOne}
use Rattle.script_engine.specs.Engines.{ConsumedAll, last_of}
use Rattle.script_engine.specs.Named.{HasName}
use Rattle.script_engine.specs.Text.{last_text}

pub none_so_far : (w : World) (d moment : ℕ) → ConsumesSome w d moment [] w
none_so_far w d moment = refl

pub one_more : (w : World) (d moment : ℕ) (done : List Consumed) (mid : World) (c : Consumed) (next : World) → ConsumesSome w d moment done mid → ConsumesOne mid d moment c next → ConsumesSome w d moment (done ++ c ∷ []) next
one_more w d moment [] mid c next same one = (next, subst (λ v. ConsumesOne v d moment c next) same one, refl)
one_more w d moment (x ∷ done) mid c next (between, first, some) one = (between, first, one_more between d moment done mid c next some one)

-- all that is consumed from here on comes behind what was
goes_on : (w : World) (d moment : ℕ) (done : List Consumed) (mid : World) (rest : List Consumed) (why : Option Refusal) (new : World) → ConsumesSome w d moment done mid → ConsumesAll mid d moment rest why new
    → ConsumesAll w d moment (done ++ rest) why new
goes_on w d moment [] mid rest why new same all = subst (λ v. ConsumesAll v d moment rest why new) same all
goes_on w d moment (x ∷ done) mid rest why new (between, first, some) all = (between, first, goes_on between d moment done mid rest why new some all)

-- where all are consumed, or one is refused, some are
all_some : (w : World) (d moment : ℕ) (done : List Consumed) (why : Option Refusal) (new : World) → ConsumesAll w d moment done why new → ConsumesSome w d moment done new
all_some w d moment [] why new (inl (end, is, same)) = same
all_some w d moment [] why new (inr (count, wide, is, same)) = same
all_some w d moment (c ∷ rest) why new (mid, one, all) = (mid, one, all_some mid d moment rest why new all)

pub consumed_some : (w : World) (d moment : ℕ) (outcome : Result (Option Consumed) Refusal) (new : World) → ConsumedAll w d moment outcome new → (done : List Consumed) × ConsumesSome w d moment done new
consumed_some w d moment (Ok last) new (done, all, is) = (done, all_some w d moment done None new all)
consumed_some w d moment (Err why) new (done, all) = (done, all_some w d moment done (Some why) new all)

pub last_push : (done : List Consumed) (c : Consumed) → last_of (done ++ c ∷ []) ≡ Some c
last_push [] c = refl
last_push (x ∷ []) c = refl
last_push (x ∷ y ∷ rest) c = last_push (y ∷ rest) c

-- nothing is left
pub at_end : (w : World) (d moment : ℕ) (done : List Consumed) (mid new : World) (last : Option Consumed) → ConsumesSome w d moment done mid → last_of done ≡ last → ConsumesNext mid d moment [] None new → ConsumedAll w d moment (Ok last) new
at_end w d moment done mid new last so is (end, same) = (done, subst (λ l. ConsumesAll w d moment l None new) (append-nil done) (goes_on w d moment done mid [] None new so (inl (end, refl, same))), is)

-- the next one is refused
pub cut : (w : World) (d moment : ℕ) (done : List Consumed) (mid new : World) (why : Refusal) → ConsumesSome w d moment done mid → ConsumesNext mid d moment [] (Some why) new → ConsumedAll w d moment (Err why) new
cut w d moment done mid new why so (count, wide, is, same) = (done, subst (λ l. ConsumesAll w d moment l (Some why) new) (append-nil done) (goes_on w d moment done mid [] (Some why) new so (inr (count, wide, ap Some is, same))))

-- the text of all is that of the last
pub last_is : (name : List ℕ) (done : List Consumed) → last_text name done ≡ last_text name (option_to_list (last_of done))
last_is name [] = refl
last_is name (c ∷ []) = refl
last_is name (c ∷ more ∷ rest) = last_is name (more ∷ rest)

-- a refusal of a journal record has no name
pub next_refused : (w : World) (d moment : ℕ) (why : Refusal) (new : World) → ConsumesNext w d moment [] (Some why) new → HasName why
next_refused w d moment why new (count, wide, is, same) = subst HasName (sym is) tt

pub all_refused : (w : World) (d moment : ℕ) (done : List Consumed) (why : Refusal) (new : World) → ConsumesAll w d moment done (Some why) new → HasName why
all_refused w d moment [] why new (inl (end, is, same)) = absurd (cc)
all_refused w d moment [] why new (inr (count, wide, is, same)) = let full : why ≡ VectorFull count = cc in subst HasName (sym full) tt
all_refused w d moment (c ∷ rest) why new (mid, one, all) = all_refused mid d moment rest why new all
