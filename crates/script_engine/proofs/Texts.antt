-- Words parted by one byte.
use Rattle.std.proofs.Common.{◌≡◌, ℕ, List, [], ◌∷◌, ◌++◌, map, refl, sym, ap, ◌∙◌, append_assoc, append-nil, subst, Result, Ok, Err, IfOk}
use Rattle.std.specs.Prelude.{String, flat_map, string_bytes}
use Rattle.std.specs.List.{join_with_byte}
use Rattle.std.specs.declared.alloc.Global.{Global}

-- a word and further ones, each behind the byte
pub join_map : {X : Type 0} (byte : ℕ) (f : X → List ℕ) (word : List ℕ) (xs : List X) → join_with_byte byte (word ∷ map f xs) ≡ word ++ flat_map (λ x. byte ∷ f x) xs
join_map byte f word [] = sym (append-nil word)
join_map byte f word (x ∷ xs) = ap (λ l. word ++ (byte ∷ l)) (join_map byte f (f x) xs)

-- some words and some more
join_append : (w : List ℕ) (ws : List (List ℕ)) (v : List ℕ) (vs : List (List ℕ)) → join_with_byte 32 ((w ∷ ws) ++ (v ∷ vs)) ≡ join_with_byte 32 (w ∷ ws) ++ (32 ∷ join_with_byte 32 (v ∷ vs))
join_append w [] v vs = refl
join_append w (x ∷ ws) v vs = ap (λ l. w ++ (32 ∷ l)) (join_append x ws v vs) ∙ sym (append_assoc w (32 ∷ join_with_byte 32 (x ∷ ws)) (32 ∷ join_with_byte 32 (v ∷ vs)))

-- two texts of words, a blank between them and a line feed behind them
pub joined : (w : List ℕ) (ws : List (List ℕ)) (v : List ℕ) (vs : List (List ℕ)) (first second : List ℕ) → first ≡ join_with_byte 32 (w ∷ ws) → second ≡ join_with_byte 32 (v ∷ vs)
    → first ++ (32 ∷ (second ++ 10 ∷ [])) ≡ join_with_byte 32 ((w ∷ ws) ++ (v ∷ vs)) ++ 10 ∷ []
joined w ws v vs first second f s =
    (λ i. f i ++ (32 ∷ (s i ++ 10 ∷ [])))
    ∙ sym (append_assoc (join_with_byte 32 (w ∷ ws)) (32 ∷ join_with_byte 32 (v ∷ vs)) (10 ∷ []))
    ∙ ap (λ l. l ++ 10 ∷ []) (sym (join_append w ws v vs))

-- what is said of a text is said of the text that a call made
pub said_of : {E : Type 0} (r : Result (String Global) E) (text : List ℕ) (Q : List ℕ → Type 0) → IfOk r (λ made. string_bytes made ≡ text) → Q text → IfOk r (λ made. Q (string_bytes made))
said_of (Ok made) text Q is q = subst Q (sym is) q
said_of (Err e) text Q is q = tt
