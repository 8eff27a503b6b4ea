-- The calls of a session go on with a history: with each entry of its own by one, with those of others not at all.
use Rattle.std.proofs.Common.{◌≡◌, ◌≢◌, ℕ, List, [], ◌∷◌, ◌++◌, Bool, true, false, refl, sym, ap, ◌∙◌, ◌==◌}
use Rattle.std.proofs.lemmas.Bool.{ne_eqb, eq-eqb}
use Rattle.std.proofs.lemmas.List.{append-nil}
use Rattle.scm_book.specs.Machine.{CallData, ReplyData, EntryData}
use Rattle.scm_book.specs.inner.Callers.{calls_by}

-- with one more call or without it
abbrev with_call : Bool → CallData × ReplyData → List (CallData × ReplyData) → List (CallData × ReplyData)
with_call true call calls = call ∷ calls
with_call false call calls = calls

calls_by-cons : (session : ℕ) (entry : EntryData) (others : List EntryData) (own : Bool) → (entry.session == session) ≡ own
    → calls_by session (entry ∷ others) ≡ with_call own (entry.call, entry.reply) (calls_by session others)
calls_by-cons session entry others true is = rw is
calls_by-cons session entry others false is = rw is

with_call-append : (own : Bool) (call : CallData × ReplyData) (calls more : List (CallData × ReplyData))
    → with_call own call (calls ++ more) ≡ with_call own call calls ++ more
with_call-append true call calls more = refl
with_call-append false call calls more = refl

pub calls_by-append : (session : ℕ) (xs ys : List EntryData) → calls_by session (xs ++ ys) ≡ calls_by session xs ++ calls_by session ys
calls_by-append session [] ys = refl
calls_by-append session (x ∷ xs) ys =
    calls_by-cons session x (xs ++ ys) (x.session == session) refl
    ∙ ap (with_call (x.session == session) (x.call, x.reply)) (calls_by-append session xs ys)
    ∙ with_call-append (x.session == session) (x.call, x.reply) (calls_by session xs) (calls_by session ys)
    ∙ ap (λ calls. calls ++ calls_by session ys) (sym (calls_by-cons session x xs (x.session == session) refl))

-- an entry of the session itself adds its call and its reply
pub calls_by-entry_own : (session : ℕ) (journal : List EntryData) (entry : EntryData) → entry.session ≡ session
    → calls_by session (journal ++ entry ∷ []) ≡ calls_by session journal ++ (entry.call, entry.reply) ∷ []
calls_by-entry_own session journal entry own =
    calls_by-append session journal (entry ∷ [])
    ∙ ap (λ calls. calls_by session journal ++ calls) (calls_by-cons session entry [] true (eq-eqb entry.session session own))

-- an entry of another session adds nothing
pub calls_by-entry_other : (session : ℕ) (journal : List EntryData) (entry : EntryData) → entry.session ≢ session
    → calls_by session (journal ++ entry ∷ []) ≡ calls_by session journal
calls_by-entry_other session journal entry apart =
    calls_by-append session journal (entry ∷ [])
    ∙ ap (λ calls. calls_by session journal ++ calls) (calls_by-cons session entry [] false (ne_eqb entry.session session apart))
    ∙ append-nil (calls_by session journal)
