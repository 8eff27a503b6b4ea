-- What an audit tells: whether the calls that passes made are the journal's.
use Rattle.std.specs.Prelude.{◌≡◌, List, Bool, true, ◌==◌, All}
use Rattle.std.specs.List.{list_all, list_any}
use Rattle.scm_book.specs.Machine.{EntryData}
use Rattle.scm_book.specs.inner.Callers.{calls_by}
use Rattle.scm_shared.specs.Passes.{Known}

-- each session with an entry has its pass among these
abbrev pub covers : List Known → List EntryData → Bool
covers passes journal = list_all (λ entry. list_any (λ pass. pass.number == entry.session) passes) journal

-- the calls that each pass made are its session's entries, in order
abbrev pub AllMatchEntries : List Known → List EntryData → Type 0
AllMatchEntries passes journal = All (λ pass. pass.made ≡ calls_by pass.number journal) passes

abbrev pub Agree : List Known → List EntryData → Type 0
Agree passes journal = (covers passes journal ≡ true) × AllMatchEntries passes journal
