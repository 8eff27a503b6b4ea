-- What a call adds to what its pass knows.
use Rattle.std.proofs.Common.{◌≡◌, ℕ, ◌+◌, List, [], ◌∷◌, ◌++◌, length, refl, sym, ap, ◌∙◌, subst, arith, length-append}
use Rattle.scm_book.specs.Machine.{CallData, ReplyData, EntryData, Machine}
use Rattle.scm_book.specs.Journal.{count_of, entered, IsLegalHistory}
use Rattle.scm_book.specs.inner.Callers.{calls_by}
use Rattle.scm_book.specs.laws.CallerLaws.{calls_by-entry_own}
use Rattle.scm_shared.specs.Passes.{Known, known, Extended}
use Rattle.scm_shared.specs.inner.Rule.{FitsHistory}
use Rattle.scm_shared.specs.inner.Steps.{called}

-- a pass that fitted the journal makes a call, and has seen the journal with it
pub extended : (old : Known) (log now : List EntryData) (machine : Machine) (call : CallData) (reply : ReplyData) (number : ℕ) (made : List (CallData × ReplyData)) (seen : List EntryData) (front : ℕ)
    → FitsHistory log old → now ≡ entered log old.number call reply → IsLegalHistory now machine
    → number ≡ old.number → made ≡ old.made ++ (call, reply) ∷ [] → seen ≡ now → front ≡ length now
    → Extended old call reply (known number made seen front)
extended old log now machine call reply number made seen front fit is legal same one_more all long =
    let b = fit.begins in
    let told = fit.front in
    let grown : length now ≡ length log + 1 = ap length is ∙ length-append log _ in
    let seen_length : length seen ≡ length now = ap length all in
    let calls : calls_by old.number now ≡ old.made ++ (call, reply) ∷ [] =
    ap (calls_by old.number) is ∙ calls_by-entry_own old.number log _ refl ∙ ap (λ (m : List (CallData × ReplyData)). m ++ (call, reply) ∷ []) fit.all in
    record {
      between = b.0;
      seen = all ∙ is ∙ ap (λ (l : List EntryData). entered l old.number call reply) (sym b.1);
      legal = record { machine = machine; legal = subst (λ (l : List EntryData). IsLegalHistory l machine) (sym all) legal };
      longer = omega (arith, told, grown, seen_length);
      front = long ∙ sym seen_length;
      number = same;
      made = one_more;
      own = ap (λ (n : ℕ). calls_by n seen) same ∙ ap (calls_by old.number) all ∙ calls ∙ sym one_more;
    }

-- a pass that was told of the journal's last entry, its call's, made it and has seen all
pub told_last : (log own entries now : List EntryData) (old held told : Known) (number : ℕ) (call : CallData) (reply : ReplyData)
    → entries ≡ now → now ≡ entered log number call reply → own ≡ log → held ≡ old
    → ((last : EntryData) → entries ≡ own ++ last ∷ [] → told ≡ called last entries held)
    → (told.made ≡ old.made ++ (call, reply) ∷ []) × (told.seen ≡ now)
told_last log own entries now old held told number call reply are is whole same tells =
    let last : EntryData = record { session = number; number = count_of number log; call = call; reply = reply } in
    let all : told ≡ called last entries held = tells last (are ∙ is ∙ ap (λ (l : List EntryData). l ++ last ∷ []) (sym whole)) in
    (ap (λ (k : Known). k.made) all ∙ ap (λ (k : Known). k.made ++ (call, reply) ∷ []) same, ap (λ (k : Known). k.seen) all ∙ are)
