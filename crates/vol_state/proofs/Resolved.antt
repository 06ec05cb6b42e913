-- Operations come to the same over the maps as through the lists that stand for them.
use Rattle.std.proofs.Common.{◌≡◌, inl, inr, ℕ, Bool, true, false, eqb, ltb, List, length, Option, Some, None, Result, Ok, Err, refl, sym, ap, ◌∙◌, arith}
use Rattle.std.proofs.lemmas.Bool.Decides.{nat_tests}
use Rattle.std.specs.Prelude.{if◌then◌else◌}
use Rattle.frs_base.specs.Options.{none_or}
use Rattle.vol_state.specs.declared.object.Object.{Object}
use Rattle.vol_state.specs.declared.operation.LocalOp.{LocalOp}
use Rattle.vol_state.specs.declared.operation.LocalOp.TheVariants as op
use Rattle.vol_state.specs.declared.operation.Refused.{Refused}
use Rattle.vol_state.specs.declared.operation.Refused.TheVariants.{TooLarge, Looped, NameTaken, NotEmpty}
use Rattle.vol_state.specs.declared.command.VolCmd.{VolCmd}
use Rattle.vol_state.specs.declared.command.VolCmd.TheVariants.{PutOver, Move, Remove}
use Rattle.vol_state.specs.Places.{is_directory, is_directory_at, is_reached, child, has_children, is_beneath}
use Rattle.vol_state.specs.Paths.{then_, home, last_name, largest, put_over, make_over, move_over, resolve}
use Rattle.vol_state.specs.State.{State}
use Rattle.vol_state.specs.Valid.{IsVolume}
use Rattle.vol_state.specs.Maps.{Maps, Stands}
use Rattle.vol_state.specs.Tables.{IsAt, IsBeneath}
use Rattle.vol_state.specs.Ways.{Follows, Puts, Makes, Moves, Removes, Resolves, ListsResolve, ResolvesToOne}
use Rattle.vol_state.proofs.Climbing.{by_cases, differ}
use Rattle.vol_state.proofs.Trees.{away}
use Rattle.vol_state.proofs.Volumes.{both}
use Rattle.vol_state.proofs.Reaching.{home_open}
use Rattle.vol_state.proofs.Tabling.{at_item, child_in, beneath_is, off_is, off_at, free_is, free_at, empty_is, empty_at}
use Rattle.vol_state.proofs.Waying.{child_is, nobody_is, child_at, nobody_at, follows_of, finds_of, follows_is, finds_is}

-- ---- what the lists answer holds over the maps

puts_of : (v : State) (m : Maps) → IsVolume v → Stands v m → (bytes : List ℕ) (at : ℕ) (name : List ℕ) → Puts m bytes at name (put_over bytes at name (child v.objects at name))
puts_of v m h s bytes at name = go (child v.objects at name) refl
  where
    kind : (o : Object) (b : Bool) → is_directory o.kind ≡ b → child v.objects at name ≡ Some o → Puts m bytes at name (if b then Err NameTaken else Ok (PutOver o.fid bytes))
    kind o true d is = inl (o.fid, (o, child_is v m h s at name o is, d), refl)
    kind o false d is = inr (inl (o.fid, (o, child_is v m h s at name o is, d), refl))

    go : (c : Option Object) → child v.objects at name ≡ c → Puts m bytes at name (put_over bytes at name (child v.objects at name))
    go None is = rw is (inr (inr (nobody_is v m s at name is, refl)))
    go (Some o) is = rw is (kind o (is_directory o.kind) refl is)

makes_of : (v : State) (m : Maps) → IsVolume v → Stands v m → (at : ℕ) (name : List ℕ) → Makes m at name (make_over at name (child v.objects at name))
makes_of v m h s at name = go (child v.objects at name) refl
  where
    go : (c : Option Object) → child v.objects at name ≡ c → Makes m at name (make_over at name (child v.objects at name))
    go None is = rw is (inr (nobody_is v m s at name is, refl))
    go (Some o) is = rw is (inl (o.fid, o, child_is v m h s at name o is, refl))

moves_of : (v : State) (m : Maps) → IsVolume v → Stands v m → (fid at : ℕ) (name : List ℕ) → is_directory_at v.objects at ≡ true
    → Moves m fid at name (if is_beneath v.objects fid at then Err Looped else move_over fid at name (child v.objects at name))
moves_of v m h s fid at name d = go (is_beneath v.objects fid at) refl
  where
    same : (o : Object) (b : Bool) → eqb o.fid fid ≡ b → (IsBeneath m fid at → ⊥) → child v.objects at name ≡ Some o → Moves m fid at name (if b then Ok (Move fid at name) else Err NameTaken)
    same o true t off is = inr (off, inr (free_is v m h s fid at name (rw is t), refl))
    same o false t off is = inr (off, inl (o.fid, o, child_is v m h s at name o is, away o.fid fid t, refl))

    over : (c : Option Object) → child v.objects at name ≡ c → (IsBeneath m fid at → ⊥) → Moves m fid at name (move_over fid at name (child v.objects at name))
    over None is off = rw is (inr (off, inr (free_is v m h s fid at name (rw is refl), refl)))
    over (Some o) is off = rw is (same o (eqb o.fid fid) refl off is)

    go : (b : Bool) → is_beneath v.objects fid at ≡ b → Moves m fid at name (if b then Err Looped else move_over fid at name (child v.objects at name))
    go true e = inl ((length v.objects, beneath_is v m s fid (length v.objects) at e), refl)
    go false e = over (child v.objects at name) refl (off_is v m h s fid at d e)

removes_of : (v : State) (m : Maps) → IsVolume v → Stands v m → (fid : ℕ) → Removes m fid (if has_children v.objects fid then Err NotEmpty else Ok (Remove fid))
removes_of v m h s fid = go (has_children v.objects fid) refl
  where
    go : (b : Bool) → has_children v.objects fid ≡ b → Removes m fid (if b then Err NotEmpty else Ok (Remove fid))
    go true e = let (o, p, i, place, under) = child_in fid v.objects e in inl (o.fid, o, p, at_item v m h s o i, place, under, refl)
    go false e = inr (empty_is v m s fid e, refl)

pub lists_resolve : ListsResolve
lists_resolve (op.Put path bytes) v m h s = go (ltb largest (length bytes)) refl
  where
    go : (b : Bool) → ltb largest (length bytes) ≡ b → Resolves m (op.Put path bytes) (if b then Err (TooLarge (length bytes)) else then_ (home v.objects path) (λ at. put_over bytes at (last_name path) (child v.objects at (last_name path))))
    go true e = inl (grind (arith, nat_tests), refl)
    go false e = inr (grind (arith, nat_tests), follows_of v m h s path (Puts m bytes) (λ at. put_over bytes at (last_name path) (child v.objects at (last_name path))) (λ at is. puts_of v m h s bytes at (last_name path)))
lists_resolve (op.Mkdir path) v m h s = follows_of v m h s path (Makes m) (λ at. make_over at (last_name path) (child v.objects at (last_name path))) (λ at is. makes_of v m h s at (last_name path))
lists_resolve (op.Move from to) v m h s =
    let to_there : Object → ℕ → Result VolCmd Refused = λ o at. if is_beneath v.objects o.fid at then Err Looped else move_over o.fid at (last_name to) (child v.objects at (last_name to)) in
    finds_of v m h s from (λ fid. Follows m to (Moves m fid)) (λ o. then_ (home v.objects to) (to_there o))
    (λ o at. follows_of v m h s to (Moves m o.fid) (to_there o) (λ parent is. moves_of v m h s o.fid parent (last_name to) (both (is_directory_at v.objects parent) (is_reached v.objects parent) (home_open v.objects h.tree to parent is)).0))
lists_resolve (op.Remove path) v m h s = finds_of v m h s path (Removes m) (λ o. if has_children v.objects o.fid then Err NotEmpty else Ok (Remove o.fid)) (λ o at. removes_of v m h s o.fid)

-- ---- what holds over the maps is what the lists answer

puts_is : (v : State) (m : Maps) → IsVolume v → Stands v m → (bytes : List ℕ) (at : ℕ) (name : List ℕ) (answer : Result VolCmd Refused) → Puts m bytes at name answer → answer ≡ put_over bytes at name (child v.objects at name)
puts_is v m h s bytes at name answer e =
    by_cases e
    (λ d. let c = child_at v m h s at name d.0 d.1.0 d.1.1 in d.2 ∙ sym (ap (put_over bytes at name) c.0 ∙ ap (λ b. if b then Err NameTaken else Ok (PutOver d.1.0.fid bytes)) d.1.2))
    (λ r. by_cases r
    (λ f. let c = child_at v m h s at name f.0 f.1.0 f.1.1 in f.2 ∙ sym (ap (put_over bytes at name) c.0 ∙ ap (λ b. if b then Err NameTaken else Ok (PutOver f.1.0.fid bytes)) f.1.2 ∙ ap (λ n. over n) c.1))
    (λ n. n.1 ∙ sym (ap (put_over bytes at name) (nobody_at v m h s at name n.0))))
  where
    over : ℕ → Result VolCmd Refused
    over n = Ok (PutOver n bytes)

makes_is : (v : State) (m : Maps) → IsVolume v → Stands v m → (at : ℕ) (name : List ℕ) (answer : Result VolCmd Refused) → Makes m at name answer → answer ≡ make_over at name (child v.objects at name)
makes_is v m h s at name answer e =
    by_cases e
    (λ d. d.3 ∙ sym (ap (make_over at name) (child_at v m h s at name d.0 d.1 d.2).0))
    (λ n. n.1 ∙ sym (ap (make_over at name) (nobody_at v m h s at name n.0)))

moves_is : (v : State) (m : Maps) → IsVolume v → Stands v m → (fid at : ℕ) (name : List ℕ) (answer : Result VolCmd Refused) → is_directory_at v.objects at ≡ true → Moves m fid at name answer
    → answer ≡ (if is_beneath v.objects fid at then Err Looped else move_over fid at name (child v.objects at name))
moves_is v m h s fid at name answer d e =
    by_cases e
    (λ b. b.1 ∙ sym (ap (λ c. if c then Err Looped else move_over fid at name (child v.objects at name)) (under b.0)))
    (λ r. by_cases r.1
    (λ t. let c = child_at v m h s at name t.0 t.1 t.2 in
    t.4 ∙ sym (ap (λ c. if c then Err Looped else move_over fid at name (child v.objects at name)) (off_at v m s fid at r.0) ∙ ap (move_over fid at name) c.0 ∙ ap (λ b. if b then Ok (Move fid at name) else Err NameTaken) (differ t.1.fid fid (λ q. t.3 (sym c.1 ∙ q)))))
    (λ f. f.1 ∙ sym (ap (λ c. if c then Err Looped else move_over fid at name (child v.objects at name)) (off_at v m s fid at r.0) ∙ alone (child v.objects at name) (free_at v m h s fid at name f.0))))
  where
    under : IsBeneath m fid at → is_beneath v.objects fid at ≡ true
    under b = go (is_beneath v.objects fid at) refl
      where
        go : (c : Bool) → is_beneath v.objects fid at ≡ c → is_beneath v.objects fid at ≡ true
        go true e = e
        go false e = absurd (off_is v m h s fid at d e b)

    alone : (c : Option Object) → none_or (λ o. eqb o.fid fid) c ≡ true → move_over fid at name c ≡ Ok (Move fid at name)
    alone None e = refl
    alone (Some o) e = ap (λ b. if b then Ok (Move fid at name) else Err NameTaken) e

removes_is : (v : State) (m : Maps) → IsVolume v → Stands v m → (fid : ℕ) (answer : Result VolCmd Refused) → Removes m fid answer → answer ≡ (if has_children v.objects fid then Err NotEmpty else Ok (Remove fid))
removes_is v m h s fid answer e =
    by_cases e
    (λ t. let (other, o, p, at, place, under, is) = t in is ∙ sym (ap (λ b. if b then Err NotEmpty else Ok (Remove fid)) (full other o p at place under)))
    (λ b. b.1 ∙ sym (ap (λ b. if b then Err NotEmpty else Ok (Remove fid)) (empty_at v m h s fid b.0)))
  where
    full : (other : ℕ) (o : Object) (p : ℕ × List ℕ) → IsAt m other o → o.place ≡ Some p → p.0 ≡ fid → has_children v.objects fid ≡ true
    full other o p at place under = go (has_children v.objects fid) refl
      where
        go : (b : Bool) → has_children v.objects fid ≡ b → has_children v.objects fid ≡ true
        go true e = e
        go false e = absurd (empty_is v m s fid e other o p at place under)

resolves_is : (operation : LocalOp) (v : State) (m : Maps) (answer : Result VolCmd Refused) → IsVolume v → Stands v m → Resolves m operation answer → answer ≡ resolve v.objects operation
resolves_is (op.Put path bytes) v m answer h s e =
    by_cases e
    (λ t. let l = t.0 in let b : ltb largest (length bytes) ≡ true = grind (arith, nat_tests) in t.1 ∙ sym (ap Row b))
    (λ t. let l = t.0 in let b : ltb largest (length bytes) ≡ false = grind (arith, nat_tests) in follows_is v m h s path (Puts m bytes) Over answer (λ at is. puts_is v m h s bytes at (last_name path) answer) t.1 ∙ sym (ap Row b))
  where
    Over : ℕ → Result VolCmd Refused
    Over at = put_over bytes at (last_name path) (child v.objects at (last_name path))

    Row : Bool → Result VolCmd Refused
    Row b = if b then Err (TooLarge (length bytes)) else then_ (home v.objects path) Over
resolves_is (op.Mkdir path) v m answer h s e = follows_is v m h s path (Makes m) (λ at. make_over at (last_name path) (child v.objects at (last_name path))) answer (λ at is. makes_is v m h s at (last_name path) answer) e
resolves_is (op.Move from to) v m answer h s e =
    finds_is v m h s from (λ fid. Follows m to (Moves m fid)) (λ o. then_ (home v.objects to) (There o)) answer
    (λ o. follows_is v m h s to (Moves m o.fid) (There o) answer (λ at is. moves_is v m h s o.fid at (last_name to) answer (both (is_directory_at v.objects at) (is_reached v.objects at) (home_open v.objects h.tree to at is)).0)) e
  where
    There : Object → ℕ → Result VolCmd Refused
    There o at = if is_beneath v.objects o.fid at then Err Looped else move_over o.fid at (last_name to) (child v.objects at (last_name to))
resolves_is (op.Remove path) v m answer h s e = finds_is v m h s path (Removes m) (λ o. if has_children v.objects o.fid then Err NotEmpty else Ok (Remove o.fid)) answer (λ o. removes_is v m h s o.fid answer) e

pub resolves_to_one : ResolvesToOne
resolves_to_one operation v m a b h s x y = resolves_is operation v m a h s x ∙ sym (resolves_is operation v m b h s y)
