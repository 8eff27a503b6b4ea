-- Seats in hand: the book's with a pass in it, and the one in which two passes meet.
use Rattle.std.proofs.Common.{◌≡◌, ◌⊎◌, ℕ, List, [], ◌∷◌, ◌++◌, length, sym, ap, ◌∙◌, subst}
use mathlib.Core.List.{IsPrefix}
use Rattle.atomic_table.specs.Table.{Me}
use Rattle.scm_book.specs.declared.entry.Entry.{Entry}
use Rattle.scm_book.specs.Machine.{EntryData}
use Rattle.scm_shared.specs.Passes.{Known}
use Rattle.scm_shared.specs.inner.Rule.{SeatView, keeper, holder, AllFitHistory}
use Rattle.scm_shared.specs.inner.Steps.{both}
use Rattle.scm_shared.specs.inner.Seats.{IsPassOf, IsBooks}
use Rattle.scm_shared.proofs.Prefixes.{prefix_either}

-- the book's seat, with the pass that was joined to it
pub joined : (me now : Me Entry SeatView) (pass : Known) → now ≡ (both me.0 (holder (pass ∷ [])), me.1) → IsBooks me
    → now ≡ (keeper me.0.log me.0.entered (pass ∷ []), [])
joined me now pass is books = is ∙ ap (λ (m : Me Entry SeatView). (both m.0 (holder (pass ∷ [])), m.1)) books

-- two passes fit one history
pub met_seen : (passes : List Known) (one other : Known) (found : ℕ) → passes ≡ one ∷ other ∷ []
    → (log : List EntryData) × (length log ≡ found) × AllFitHistory log passes → IsPrefix one.seen other.seen ⊎ IsPrefix other.seen one.seen
met_seen passes one other found are fit =
    let both_fit = subst (AllFitHistory fit.0) are fit.2 in
    prefix_either one.seen other.seen fit.0 both_fit.0.begins both_fit.1.0.begins

abbrev passes_in : List SeatView → List Known
passes_in [] = []
passes_in (view ∷ others) = view.passes

-- the seat of one pass, with the other that was joined to it
pub meeting : (views : List SeatView) (before now : SeatView) (one other : Known) → views ≡ before ∷ [] → IsPassOf views one → now ≡ both before (holder (other ∷ []))
    → now.passes ≡ one ∷ other ∷ []
meeting views before now one other is of joined_now =
    ap (λ (v : SeatView). v.passes) joined_now
    ∙ ap (λ (passes : List Known). passes ++ other ∷ []) (sym (ap passes_in is) ∙ ap passes_in of)
