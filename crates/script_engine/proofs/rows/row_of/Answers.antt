use Rattle.std.proofs.Common.{◌≡◌, ◌∙◌, ◌∷◌, ◌++◌, [], List, Some, map, length, refl, sym, ap}
use Rattle.std.proofs.lemmas.List.{map_push, reverse-append}
use Rattle.std.specs.Prelude.{option_map, reverse}
use Rattle.script_engine.specs.Rows.{names_up}
use Rattle.script_engine.specs.Trees.{Row}
use Rattle.script_engine.proofs.rows.row_of.Goals as goal

map_turned : {A B : Type 0} (f : A → B) (xs : List A) → map f (reverse xs) ≡ reverse (map f xs)
map_turned f [] = refl
map_turned f (x ∷ xs) =
    ap (map f) (reverse-append (x ∷ []) xs) ∙ map_push f (reverse xs) x ∙ ap (λ l. l ++ f x ∷ []) (map_turned f xs) ∙ sym (reverse-append (f x ∷ []) (map f xs))

pub returns : goal.returns
returns c =
    let objects = c.args.volume.now.state.objects in
    let o = c.args.object.now in
    let names = map (λ name. name.now) c.in-Some.path.items in
    let up : Some names ≡ names_up objects (length objects) o.place = ap (option_map (λ found. map (λ name. name.now) found.items)) (sym c.in-Some.is) ∙ c.in_ok-path.ensures in
    let turned : map (λ name. name.now) c.reverse.new.self.items ≡ reverse names = ap (map (λ name. name.now)) c.reverse.ensures.items ∙ map_turned (λ name. name.now) c.in-Some.path.items in
    let row : List (List _) → Row = λ path. record { path = path; object = o } in
    ap (λ path. Some (row path)) turned ∙ ap (option_map (λ names. record { path = reverse names; object = o })) up
