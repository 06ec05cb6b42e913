-- Paths lead over the maps as they do through the lists that stand for them.
use Rattle.std.proofs.Common.{◌≡◌, ◌-◌, ◌⊎◌, inl, inr, ℕ, suc, Bool, true, false, List, [], ◌∷◌, ◌++◌, length, get_or, Option, Some, None, Result, Ok, Err, refl, sym, ap, ◌∙◌, subst, arith}
use Rattle.std.proofs.lemmas.Bool.{false≢true}
use Rattle.std.specs.Prelude.{is_some, if◌then◌else◌}
use Rattle.frs_base.specs.Options.{In}
use Rattle.vol_state.specs.declared.object.Object.{Object}
use Rattle.vol_state.specs.declared.operation.Refused.{Refused}
use Rattle.vol_state.specs.declared.operation.Refused.TheVariants.{NoPath, NotDirectory}
use Rattle.vol_state.specs.declared.command.VolCmd.{VolCmd}
use Rattle.vol_state.specs.Places.{object_at, is_directory, is_child, child}
use Rattle.vol_state.specs.Paths.{then_, present, entered, walk, home, last_name, target}
use Rattle.vol_state.specs.State.{State}
use Rattle.vol_state.specs.Valid.{IsVolume}
use Rattle.vol_state.specs.Maps.{Maps, Stands}
use Rattle.vol_state.specs.Tables.{IsAt}
use Rattle.vol_state.specs.Ways.{IsChild, HasDirectory, HasNobody, Goes, IsWay, Stops, IsNoWay, Follows, Finds}
use Rattle.vol_state.proofs.Climbing.{by_cases}
use Rattle.vol_state.proofs.Volumes.{find_in, find_none}
use Rattle.vol_state.proofs.Tabling.{item_of, at_item, is_child_by, child_by}

-- ---- what the lists say of names

pub child_is : (v : State) (m : Maps) → IsVolume v → Stands v m → (parent : ℕ) (name : List ℕ) (o : Object) → child v.objects parent name ≡ Some o → IsChild m parent name o.fid o
child_is v m h s parent name o e =
    let (i, test) = find_in (is_child parent name) v.objects o e in
    let (p, place, under, named) = child_by parent name o test in
    (p, at_item v m h s o i, place, under, named)

pub nobody_is : (v : State) (m : Maps) → Stands v m → (parent : ℕ) (name : List ℕ) → child v.objects parent name ≡ None → HasNobody m parent name
nobody_is v m s parent name e fid o c =
    let i = item_of v m s fid o c.1 in
    false≢true (sym (find_none (is_child parent name) v.objects o (ap is_some e) i.1) ∙ is_child_by parent name o c.0 c.2 c.3 c.4)

pub child_at : (v : State) (m : Maps) → IsVolume v → Stands v m → (parent : ℕ) (name : List ℕ) (fid : ℕ) (o : Object) → IsChild m parent name fid o → (child v.objects parent name ≡ Some o) × (o.fid ≡ fid)
child_at v m h s parent name fid o c = (go (child v.objects parent name) refl, i.2)
  where
    i : (object_at v.objects fid ≡ Some o) × In o v.objects × (o.fid ≡ fid)
    i = item_of v m s fid o c.1

    test : is_child parent name o ≡ true
    test = is_child_by parent name o c.0 c.2 c.3 c.4

    go : (a : Option Object) → child v.objects parent name ≡ a → child v.objects parent name ≡ Some o
    go None is = absurd (false≢true (sym (find_none (is_child parent name) v.objects o (ap is_some is) i.1) ∙ test))
    go (Some x) is = let r = find_in (is_child parent name) v.objects x is in is ∙ ap Some (h.tree.apart x o parent name r.0 i.1 r.1 test)

pub nobody_at : (v : State) (m : Maps) → IsVolume v → Stands v m → (parent : ℕ) (name : List ℕ) → HasNobody m parent name → child v.objects parent name ≡ None
nobody_at v m h s parent name nobody = go (child v.objects parent name) refl
  where
    go : (a : Option Object) → child v.objects parent name ≡ a → child v.objects parent name ≡ None
    go None is = is
    go (Some o) is = absurd (nobody o.fid o (child_is v m h s parent name o is))

-- ---- last components

last_more : (a b : List ℕ) (rest : List (List ℕ)) → last_name (a ∷ b ∷ rest) ≡ last_name (b ∷ rest)
last_more a b rest = ap (λ n. get_or (a ∷ b ∷ rest) n []) (two (length rest)) ∙ sym (ap (λ n. get_or (b ∷ rest) n []) (one (length rest)))
  where
    two : (n : ℕ) → suc (suc n) - 1 ≡ suc n
    two n = omega arith

    one : (n : ℕ) → suc n - 1 ≡ n
    one n = omega arith

last_pushed : (above : List (List ℕ)) (name : List ℕ) → last_name (above ++ name ∷ []) ≡ name
last_pushed [] name = refl
last_pushed (a ∷ []) name = last_more a name []
last_pushed (a ∷ b ∷ rest) name = last_more a b (rest ++ name ∷ []) ∙ last_pushed (b ∷ rest) name

-- ---- ways by the lists are ways over the maps

abbrev pub NoWayFrom : Maps → ℕ → List (List ℕ) → Refused → Type 0
NoWayFrom m from path why = (above : List (List ℕ)) × (name next : List ℕ) × (rest : List (List ℕ)) × (parent : ℕ) × (path ≡ above ++ name ∷ next ∷ rest) × Goes m from above parent × Stops m parent name why

abbrev pub Led : Maps → ℕ → List (List ℕ) → Result ℕ Refused → Type 0
Led m from path (Ok at) = (above : List (List ℕ)) × (path ≡ above ++ last_name path ∷ []) × Goes m from above at
Led m from path (Err why) = NoWayFrom m from path why

led_on : (m : Maps) (from fid : ℕ) (name next : List ℕ) (rest : List (List ℕ)) (r : Result ℕ Refused) → HasDirectory m from name fid → Led m fid (next ∷ rest) r → Led m from (name ∷ next ∷ rest) r
led_on m from fid name next rest (Ok at) d l = (name ∷ l.0, ap (λ xs. name ∷ xs) (l.1 ∙ ap (λ n. l.0 ++ n ∷ []) (sym (last_more name next rest))), (fid, d, l.2))
led_on m from fid name next rest (Err why) d l =
    let (above, last, behind, others, parent, e, g, stops) = l in
    (name ∷ above, last, behind, others, parent, ap (λ xs. name ∷ xs) e, (fid, d, g), stops)

led : (v : State) (m : Maps) → IsVolume v → Stands v m → (rest : List (List ℕ)) (from : ℕ) (name : List ℕ) → Led m from (name ∷ rest) (walk v.objects from name rest)
led v m h s [] from name = ([], refl, refl)
led v m h s (next ∷ rest) from name = go (child v.objects from name) refl (λ fid. led v m h s rest fid next)
  where
    through : (o : Object) (b : Bool) → is_directory o.kind ≡ b → child v.objects from name ≡ Some o → ((fid : ℕ) → Led m fid (next ∷ rest) (walk v.objects fid next rest))
        → Led m from (name ∷ next ∷ rest) (then_ (if b then Ok o.fid else Err NotDirectory) (λ fid. walk v.objects fid next rest))
    through o true d is more = led_on m from o.fid name next rest (walk v.objects o.fid next rest) (o, child_is v m h s from name o is, d) (more o.fid)
    through o false d is more = ([], name, next, rest, from, refl, refl, inr (o.fid, (o, child_is v m h s from name o is, d), refl))

    go : (c : Option Object) → child v.objects from name ≡ c → ((fid : ℕ) → Led m fid (next ∷ rest) (walk v.objects fid next rest)) → Led m from (name ∷ next ∷ rest) (then_ (entered (child v.objects from name)) (λ fid. walk v.objects fid next rest))
    go None is more = rw is ([], name, next, rest, from, refl, refl, inl (nobody_is v m s from name is, refl))
    go (Some o) is more = rw is (through o (is_directory o.kind) refl is more)

pub follows_of : (v : State) (m : Maps) → IsVolume v → Stands v m → (path : List (List ℕ)) (next : ℕ → List ℕ → Result VolCmd Refused → Type 0) (f : ℕ → Result VolCmd Refused) → ((at : ℕ) → home v.objects path ≡ Ok at → next at (last_name path) (f at)) → Follows m path next (then_ (home v.objects path) f)
follows_of v m h s [] next f more = inl (NoPath, inl (refl, refl), refl)
follows_of v m h s (name ∷ rest) next f more = go (walk v.objects 0 name rest) refl (led v m h s rest 0 name)
  where
    go : (r : Result ℕ Refused) → walk v.objects 0 name rest ≡ r → Led m 0 (name ∷ rest) (walk v.objects 0 name rest) → Follows m (name ∷ rest) next (then_ (walk v.objects 0 name rest) f)
    go (Ok at) is l = rw is (inr (at, last_name (name ∷ rest), subst (Led m 0 (name ∷ rest)) is l, more at is))
    go (Err why) is l = rw is (inl (why, inr (subst (Led m 0 (name ∷ rest)) is l), refl))

then_then : {A B C : Type 0} (r : Result A Refused) (f : A → Result B Refused) (g : B → Result C Refused) → then_ r (λ x. then_ (f x) g) ≡ then_ (then_ r f) g
then_then (Ok x) f g = refl
then_then (Err e) f g = refl

pub finds_of : (v : State) (m : Maps) → IsVolume v → Stands v m → (path : List (List ℕ)) (next : ℕ → Result VolCmd Refused → Type 0) (g : Object → Result VolCmd Refused) → ((o : Object) → IsAt m o.fid o → next o.fid (g o)) → Finds m path next (then_ (target v.objects path) g)
finds_of v m h s path next g more =
    subst (Finds m path next) (then_then (home v.objects path) (λ at. present (child v.objects at (last_name path))) g)
    (follows_of v m h s path Next (λ at. then_ (present (child v.objects at (last_name path))) g) (λ at is. go at (child v.objects at (last_name path)) refl))
  where
    Next : ℕ → List ℕ → Result VolCmd Refused → Type 0
    Next parent name answer = (HasNobody m parent name × (answer ≡ Err NoPath)) ⊎ ((fid : ℕ) × (o : Object) × IsChild m parent name fid o × next fid answer)

    go : (at : ℕ) (c : Option Object) → child v.objects at (last_name path) ≡ c → Next at (last_name path) (then_ (present (child v.objects at (last_name path))) g)
    go at None is = rw is (inl (nobody_is v m s at (last_name path) is, refl))
    go at (Some o) is = let c = child_is v m h s at (last_name path) o is in rw is (inr (o.fid, o, c, more o c.1))

-- ---- what holds over the maps is what the lists say

-- the directory of the last component, from this directory on
abbrev pub home_from : List Object → ℕ → List (List ℕ) → Result ℕ Refused
home_from objects at [] = Err NoPath
home_from objects at (name ∷ rest) = walk objects at name rest

home_is : (objects : List Object) (path : List (List ℕ)) → home objects path ≡ home_from objects 0 path
home_is objects [] = refl
home_is objects (name ∷ rest) = refl

entered_is : (v : State) (m : Maps) → IsVolume v → Stands v m → (at : ℕ) (name : List ℕ) (fid : ℕ) → HasDirectory m at name fid → entered (child v.objects at name) ≡ Ok fid
entered_is v m h s at name fid d =
    let c = child_at v m h s at name fid d.0 d.1 in
    ap entered c.0 ∙ ap (λ b. if b then Ok d.0.fid else Err NotDirectory) d.2 ∙ ap (λ n. ok n) c.1
  where
    ok : ℕ → Result ℕ Refused
    ok n = Ok n

walk_on : (objects : List Object) (at : ℕ) (dir : List ℕ) (above : List (List ℕ)) (name : List ℕ) (rest : List (List ℕ)) → walk objects at dir (above ++ name ∷ rest) ≡ then_ (entered (child objects at dir)) (λ fid. home_from objects fid (above ++ name ∷ rest))
walk_on objects at dir [] name rest = refl
walk_on objects at dir (a ∷ above) name rest = refl

goes_is : (v : State) (m : Maps) → IsVolume v → Stands v m → (above : List (List ℕ)) (from to : ℕ) (name : List ℕ) (rest : List (List ℕ)) → Goes m from above to → home_from v.objects from (above ++ name ∷ rest) ≡ walk v.objects to name rest
goes_is v m h s [] from to name rest g = ap (λ n. walk v.objects n name rest) g
goes_is v m h s (dir ∷ above) from to name rest g =
    let (fid, d, more) = g in
    walk_on v.objects from dir above name rest
    ∙ ap (λ r. then_ r (λ fid. home_from v.objects fid (above ++ name ∷ rest))) (entered_is v m h s from dir fid d)
    ∙ goes_is v m h s above fid to name rest more

way_is : (v : State) (m : Maps) → IsVolume v → Stands v m → (path : List (List ℕ)) (parent : ℕ) (name : List ℕ) → IsWay m path parent name → (home v.objects path ≡ Ok parent) × (last_name path ≡ name)
way_is v m h s path parent name w =
    (home_is v.objects path ∙ ap (home_from v.objects 0) w.1 ∙ goes_is v m h s w.0 0 parent name [] w.2, ap last_name w.1 ∙ last_pushed w.0 name)

stops_is : (v : State) (m : Maps) → IsVolume v → Stands v m → (parent : ℕ) (name : List ℕ) (why : Refused) → Stops m parent name why → entered (child v.objects parent name) ≡ Err why
stops_is v m h s parent name why t =
    by_cases t
    (λ n. ap entered (nobody_at v m h s parent name n.0) ∙ ap (λ w. err w) (sym n.1))
    (λ f. let c = child_at v m h s parent name f.0 f.1.0 f.1.1 in
    ap entered c.0 ∙ ap (λ b. if b then Ok f.1.0.fid else Err NotDirectory) f.1.2 ∙ ap (λ w. err w) (sym f.2))
  where
    err : Refused → Result ℕ Refused
    err w = Err w

no_way_is : (v : State) (m : Maps) → IsVolume v → Stands v m → (path : List (List ℕ)) (why : Refused) → IsNoWay m path why → home v.objects path ≡ Err why
no_way_is v m h s path why n =
    by_cases n
    (λ z. ap (home v.objects) z.0 ∙ ap (λ w. err w) (sym z.1))
    (λ t. let (above, name, next, rest, parent, e, g, stops) = t in
    home_is v.objects path ∙ ap (home_from v.objects 0) e ∙ goes_is v m h s above 0 parent name (next ∷ rest) g
    ∙ ap (λ r. then_ r (λ fid. walk v.objects fid next rest)) (stops_is v m h s parent name why stops))
  where
    err : Refused → Result ℕ Refused
    err w = Err w

pub follows_is : (v : State) (m : Maps) → IsVolume v → Stands v m → (path : List (List ℕ)) (next : ℕ → List ℕ → Result VolCmd Refused → Type 0) (f : ℕ → Result VolCmd Refused) (answer : Result VolCmd Refused)
    → ((at : ℕ) → home v.objects path ≡ Ok at → next at (last_name path) answer → answer ≡ f at) → Follows m path next answer → answer ≡ then_ (home v.objects path) f
follows_is v m h s path next f answer more e =
    by_cases e
    (λ r. r.2 ∙ sym (ap (λ x. then_ x f) (no_way_is v m h s path r.0 r.1)))
    (λ r. let w = way_is v m h s path r.0 r.1 r.2 in
    more r.0 w.0 (subst (λ n. next r.0 n answer) (sym w.1) r.3) ∙ sym (ap (λ x. then_ x f) w.0))

pub finds_is : (v : State) (m : Maps) → IsVolume v → Stands v m → (path : List (List ℕ)) (next : ℕ → Result VolCmd Refused → Type 0) (g : Object → Result VolCmd Refused) (answer : Result VolCmd Refused)
    → ((o : Object) → next o.fid answer → answer ≡ g o) → Finds m path next answer → answer ≡ then_ (target v.objects path) g
finds_is v m h s path next g answer more e =
    follows_is v m h s path Next (λ at. then_ (present (child v.objects at (last_name path))) g) answer (λ at is. here at) e
    ∙ then_then (home v.objects path) (λ at. present (child v.objects at (last_name path))) g
  where
    Next : ℕ → List ℕ → Result VolCmd Refused → Type 0
    Next parent name answer = (HasNobody m parent name × (answer ≡ Err NoPath)) ⊎ ((fid : ℕ) × (o : Object) × IsChild m parent name fid o × next fid answer)

    here : (at : ℕ) → Next at (last_name path) answer → answer ≡ then_ (present (child v.objects at (last_name path))) g
    here at n = by_cases n
        (λ z. z.1 ∙ sym (ap (λ c. then_ (present c) g) (nobody_at v m h s at (last_name path) z.0)))
        (λ t. let c = child_at v m h s at (last_name path) t.0 t.1 t.2 in
        more t.1 (subst (λ n. next n answer) (sym c.1) t.3) ∙ sym (ap (λ x. then_ (present x) g) c.0))
