-- Texts joined by commas grow by one text.
use Rattle.std.proofs.Common.{◌≡◌, ℕ, ◌+◌, ◌<◌, List, [], ◌∷◌, ◌++◌, length, map, take, get_or, sym, ap, ◌∙◌, arith, append_assoc, append-nil, length-take, ◌==◌, Bool, false, if◌then◌else◌, codes}
use Rattle.std.proofs.lemmas.Bool.{ne_eqb}
use Rattle.std.proofs.lemmas.List.{length-map, take_more, get_or-map, flat_map_more}
use Rattle.scm_sessions.specs.Script.{joined, comma_after}

joined_push : (texts : List (List ℕ)) (text : List ℕ) → (joined texts ++ comma_after (length texts)) ++ text ≡ joined (texts ++ text ∷ [])
joined_push [] text = sym (append-nil text)
joined_push (first ∷ others) text =
    let some : (length (first ∷ others) == 0) ≡ false = ne_eqb (length (first ∷ others)) 0 (omega arith) in
    let comma : Bool → List ℕ = λ none. if none then [] else codes "," in
    ap (λ none. (joined (first ∷ others) ++ comma none) ++ text) some
    ∙ append_assoc (joined (first ∷ others)) (44 ∷ []) text ∙ flat_map_more (λ t. 44 ∷ t) first others text

-- the first i texts are joined, and then the next one
pub joined-take_more : {X : Type 0} (f : X → List ℕ) (xs : List X) (i : ℕ) (d : X) → i < length xs
    → (joined (take i (map f xs)) ++ comma_after i) ++ f (get_or xs i d) ≡ joined (take (i + 1) (map f xs))
joined-take_more f xs i d within =
    let count : length (map f xs) ≡ length xs = length-map xs f in
    let before : List (List ℕ) = take i (map f xs) in
    let taken : length before ≡ i = length-take i (map f xs) ∙ omega arith in
    let text : get_or (map f xs) i (f d) ≡ f (get_or xs i d) = get_or-map f xs i d (f d) within in
    let more : take (i + 1) (map f xs) ≡ before ++ get_or (map f xs) i (f d) ∷ [] = take_more (map f xs) i (f d) (omega arith) in
    ap (λ n. (joined before ++ comma_after n) ++ f (get_or xs i d)) (sym taken) ∙ joined_push before (f (get_or xs i d))
    ∙ ap (λ t. joined (before ++ t ∷ [])) (sym text) ∙ ap joined (sym more)
