-- The lines of a journal grow by one entry.
use Rattle.std.proofs.Common.{◌≡◌, ℕ, ◌+◌, ◌<◌, List, [], ◌∷◌, ◌++◌, length, map, take, get_or, sym, ap, ◌∙◌, arith, append_assoc, append-nil, length-take, suc, slice_index_or, subst}
use Rattle.std.proofs.lemmas.List.{length-map, take_more, get_or-map}
use Rattle.std.proofs.lemmas.List.Elements.{All-get_or}
use Rattle.scm_book.specs.Machine.{EntryData}
use Rattle.scm_sessions.specs.inner.JournalText.{AreNamed, entry_line, entry_lines}

-- the line of an entry at a place, under the name of its session
abbrev line_at : List (List ℕ) → ℕ → EntryData → List ℕ
line_at names place entry = entry_line place (slice_index_or names entry.session []) entry

entry_lines_push : (names : List (List ℕ)) (place : ℕ) (entries : List EntryData) (entry : EntryData)
    → entry_lines names place entries ++ line_at names (place + length entries) entry ≡ entry_lines names place (entries ++ entry ∷ [])
entry_lines_push names place [] entry =
    let here : place + 0 ≡ place = omega arith in ap (λ p. line_at names p entry) here ∙ sym (append-nil _)
entry_lines_push names place (first ∷ others) entry =
    let there : place + suc (length others) ≡ (place + 1) + length others = omega arith in
    append_assoc (line_at names place first) (entry_lines names (place + 1) others) _
    ∙ ap (λ p. line_at names place first ++ (entry_lines names (place + 1) others ++ line_at names p entry)) there
    ∙ ap (λ lines. line_at names place first ++ lines) (entry_lines_push names (place + 1) others entry)

-- the lines of the first i entries, and then the next one
pub entry_lines-take_more : {X : Type 0} (data_of : X → EntryData) (names : List (List ℕ)) (xs : List X) (i : ℕ) (x : X) → i < length xs
    → x ≡ get_or xs i x
    → entry_lines names 0 (take i (map data_of xs)) ++ entry_line i (slice_index_or names (data_of x).session []) (data_of x)
    ≡ entry_lines names 0 (take (i + 1) (map data_of xs))
entry_lines-take_more data_of names xs i x within is =
    let entries : List EntryData = map data_of xs in
    let count : length entries ≡ length xs = length-map xs data_of in
    let before : List EntryData = take i entries in
    let taken : 0 + length before ≡ i = omega (arith, length-take i entries) in
    let entry : get_or entries i (data_of x) ≡ data_of x = get_or-map data_of xs i x (data_of x) within ∙ ap data_of (sym is) in
    let more : take (i + 1) entries ≡ before ++ data_of x ∷ [] =
    take_more entries i (data_of x) (omega arith) ∙ ap (λ e. before ++ e ∷ []) entry in
    ap (λ n. entry_lines names 0 before ++ line_at names n (data_of x)) (sym taken)
    ∙ entry_lines_push names 0 before (data_of x) ∙ ap (entry_lines names 0) (sym more)

-- the entry at a place within them is of a session that has a name
pub session_named : {X : Type 0} (data_of : X → EntryData) (names : List (List ℕ)) (xs : List X) (i : ℕ) (x : X) → AreNamed names (map data_of xs)
    → i < length xs → x ≡ get_or xs i x → (data_of x).session < length names
session_named data_of names xs i x named within is =
    let P : EntryData → Type 0 = λ entry. entry.session < length names in
    let entries : List EntryData = map data_of xs in
    let count : length entries ≡ length xs = length-map xs data_of in
    let entry : get_or entries i (data_of x) ≡ data_of x = get_or-map data_of xs i x (data_of x) within ∙ ap data_of (sym is) in
    subst P entry (All-get_or P entries i (data_of x) (omega arith) named)
