-- No more names enter than there is room for.
use Rattle.std.proofs.Common.{◌≡◌, ℕ, ◌≤◌, ◌<◌, List, [], ◌∷◌, ◌++◌, length, Bool, true, false, not, ◌&&◌, nat_le, if◌then◌else◌, arith, length-append}
use Rattle.std.proofs.lemmas.Bool.{leb-false}
use Rattle.scm_sequences.specs.declared.limits.TheConstants.{MOST_SESSIONS}
use Rattle.scm_sessions.specs.Script.{is_entered, with_name, is_turned_away}

entered_within : (names : List (List ℕ)) (name : List ℕ) (entered : Bool) → length names ≤ MOST_SESSIONS
    → (not entered && nat_le MOST_SESSIONS (length names)) ≡ false → length (if entered then names else names ++ name ∷ []) ≤ MOST_SESSIONS
entered_within names name true within away = within
entered_within names name false within away =
    let room : length names < MOST_SESSIONS = leb-false MOST_SESSIONS (length names) away in simp length-append (omega arith)

pub with_name_within : (names : List (List ℕ)) (name : List ℕ) → length names ≤ MOST_SESSIONS → is_turned_away names name ≡ false
    → length (with_name names name) ≤ MOST_SESSIONS
with_name_within names name within away = entered_within names name (is_entered names name) within away
