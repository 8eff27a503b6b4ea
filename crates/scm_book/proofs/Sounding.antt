-- A trace is sound, and stays so.
use Rattle.std.proofs.Common.{ℕ, ◌≡◌, ◌<◌, ◌≤◌, All, arith, List, [], ◌∷◌, ◌++◌, length, get_or, slice_get, Option, None, Some, Result, Ok, Err, OnOk, OnErr, AllPairs, refl, sym, ap, ◌∙◌, subst}
use Rattle.std.proofs.lemmas.List.{length-replicate}
use Rattle.std.proofs.lemmas.List.Elements.{All-nil, All-replicate}
use Rattle.scm_sequences.specs.declared.limits.TheConstants.{MOST_PROCESSES, MOST_SITUATIONS}
use Rattle.std.proofs.lemmas.Option.{slice_get_within, get_or_from_slice_get}
use Rattle.std.specs.Option.{ok_or}
use Rattle.scm_sequences.specs.declared.op.Op.{Op}
use Rattle.scm_sequences.specs.declared.refusal.Refusal.{Refusal}
use Rattle.scm_sequences.specs.declared.refusal.Refusal.TheVariants.{NoSuchMark}
use Rattle.scm_sequences.specs.Sequences.{IsWithin, cell_of, push_refusal, pushed, lengths_of, cut_lists}
use Rattle.scm_sequences.specs.laws.SequenceLaws.{length-pushed, length-cut_lists, lengths_of-cut_lists, push_refusal-none, AreSequences-replicate, AreSequences-pushed, AreSequences-cut_lists, NamesCellsBelow-pushed, NamesCellsBelow-cut_lists}
use Rattle.scm_marks.specs.MarkLists.{mark_at, marks_up_to}
use Rattle.scm_cells.specs.CellLists.{Declared, AreCells}
use Rattle.scm_book.specs.Machine.{TraceState, new_trace}
use Rattle.scm_book.specs.inner.Sound.{IsSoundTrace}
use Rattle.scm_sequences.specs.laws.LengthLaws.{IsWithin-pushed}
use Rattle.scm_book.proofs.Marking.{within_last, before_last, AllPairs-grown, AllPairs-twice, AllPairs-back}

-- a new trace
pub IsSoundTrace-new : (owner procs budget : ℕ) (cells : List Declared) → AreCells cells → 0 < procs → procs ≤ MOST_PROCESSES → 1 ≤ budget → budget ≤ MOST_SITUATIONS → IsSoundTrace (new_trace owner procs budget cells)
IsSoundTrace-new owner procs budget cells are some procs-most least most = record {
  cells = are;
  sequences = AreSequences-replicate procs some procs-most;
  names = All-replicate (λ (ops : List Op). All (λ op. cell_of op < length cells) ops) procs [] (All-nil (λ (op : Op). cell_of op < length cells));
  claimants = length-replicate procs None ∙ sym (length-replicate procs []);
  least = least;
  most = most;
  marks = λ i j d less within. absurd (omega (arith, less, within));
}

IsSoundTrace-pushed : (state : TraceState) (p : ℕ) (op : Op) → IsSoundTrace state → cell_of op < length state.cells → push_refusal state.sequences p ≡ None → IsSoundTrace (record state { sequences = pushed state.sequences p op })
IsSoundTrace-pushed state p op sound below free = record {
  cells = sound.cells;
  sequences = AreSequences-pushed state.sequences p op sound.sequences free;
  names = NamesCellsBelow-pushed (length state.cells) state.sequences p op sound.names below;
  claimants = sound.claimants ∙ sym (length-pushed state.sequences p op);
  least = sound.least;
  most = sound.most;
  marks = AllPairs-grown state.marks (lengths_of state.sequences) (lengths_of (pushed state.sequences p op)) sound.marks (IsWithin-pushed state.sequences p op (push_refusal-none state.sequences p free).0);
}

-- after a push, whether it was refused or not
pub IsSoundTrace-push : (state : TraceState) (p : ℕ) (op : Op) (result : Result (Unit {0}) Refusal) (sequences : List (List Op)) → IsSoundTrace state → cell_of op < length state.cells
    → OnOk result ((push_refusal state.sequences p ≡ None) × (sequences ≡ pushed state.sequences p op)) → OnErr result (sequences ≡ state.sequences) → IsSoundTrace (record state { sequences = sequences })
IsSoundTrace-push state p op (Ok done) sequences sound below ok err = subst (λ s. IsSoundTrace (record state { sequences = s })) (sym ok.1) (IsSoundTrace-pushed state p op sound below ok.0)
IsSoundTrace-push state p op (Err refusal) sequences sound below ok err = subst (λ s. IsSoundTrace (record state { sequences = s })) (sym err) sound

IsSoundTrace-marked : (state : TraceState) → IsSoundTrace state → IsSoundTrace (record state { marks = state.marks ++ lengths_of state.sequences ∷ [] })
IsSoundTrace-marked state sound = record {
  cells = sound.cells;
  sequences = sound.sequences;
  names = sound.names;
  claimants = sound.claimants;
  least = sound.least;
  most = sound.most;
  marks = AllPairs-twice state.marks (lengths_of state.sequences) sound.marks;
}

-- after a mark was set at the present lengths, or refused
pub IsSoundTrace-set : (state : TraceState) (first : Option Refusal) (result : Result ℕ Refusal) (lengths : List ℕ) (marks : List (List ℕ)) → IsSoundTrace state → lengths ≡ lengths_of state.sequences
    → OnOk result ((first ≡ None) × (marks ≡ state.marks ++ lengths ∷ [])) → OnErr result (marks ≡ state.marks) → IsSoundTrace (record state { marks = marks })
IsSoundTrace-set state first (Ok n) lengths marks sound same ok err = subst (λ m. IsSoundTrace (record state { marks = m })) (sym (ok.1 ∙ ap (λ l. state.marks ++ l ∷ []) same)) (IsSoundTrace-marked state sound)
IsSoundTrace-set state first (Err refusal) lengths marks sound same ok err = subst (λ m. IsSoundTrace (record state { marks = m })) (sym err) sound

-- ---- a mark of a sound trace

mark_there : (marks : List (List ℕ)) (m : ℕ) (lengths : List ℕ) → mark_at marks m ≡ Ok lengths → slice_get marks m ≡ Some lengths
mark_there marks m lengths found = by (slice_get marks m) refl found where
  by : (o : Option (List ℕ)) → slice_get marks m ≡ o → ok_or o NoSuchMark ≡ Ok lengths → slice_get marks m ≡ Some lengths
  by None e f = cc
  by (Some mark) e f = cc

pub mark_in : (marks : List (List ℕ)) (m : ℕ) (lengths : List ℕ) → mark_at marks m ≡ Ok lengths → m < length marks
mark_in marks m lengths found = slice_get_within marks m lengths (mark_there marks m lengths found)

-- it is within the present lengths
pub IsWithin-mark : (state : TraceState) (m : ℕ) (lengths : List ℕ) → IsSoundTrace state → mark_at state.marks m ≡ Ok lengths → IsWithin lengths (lengths_of state.sequences)
IsWithin-mark state m lengths sound found =
    subst (λ l. IsWithin l (lengths_of state.sequences)) (get_or_from_slice_get state.marks m lengths [] (mark_there state.marks m lengths found))
    (within_last state.marks (lengths_of state.sequences) sound.marks m [] (mark_in state.marks m lengths found))

IsSoundTrace-cut : (state : TraceState) (m : ℕ) (lengths : List ℕ) → IsSoundTrace state → mark_at state.marks m ≡ Ok lengths → IsSoundTrace (record state { sequences = cut_lists state.sequences lengths; marks = marks_up_to state.marks m })
IsSoundTrace-cut state m lengths sound found = record {
  cells = sound.cells;
  sequences = AreSequences-cut_lists state.sequences lengths sound.sequences;
  names = NamesCellsBelow-cut_lists (length state.cells) state.sequences lengths sound.names;
  claimants = sound.claimants ∙ sym (length-cut_lists state.sequences lengths);
  least = sound.least;
  most = sound.most;
  marks = subst (λ l. AllPairs IsWithin (marks_up_to state.marks m ++ l ∷ [])) (is_mark ∙ sym cut) (AllPairs-back state.marks m [] (before_last state.marks (lengths_of state.sequences) sound.marks) (mark_in state.marks m lengths found));
} where
  is_mark : get_or state.marks m [] ≡ lengths
  is_mark = get_or_from_slice_get state.marks m lengths [] (mark_there state.marks m lengths found)

  cut : lengths_of (cut_lists state.sequences lengths) ≡ lengths
  cut = lengths_of-cut_lists state.sequences lengths (IsWithin-mark state m lengths sound found)

-- after a return to a mark
pub IsSoundTrace-back : (state : TraceState) (m : ℕ) (lengths : List ℕ) (sequences : List (List Op)) (marks : List (List ℕ)) → IsSoundTrace state → mark_at state.marks m ≡ Ok lengths → sequences ≡ cut_lists state.sequences lengths → marks ≡ marks_up_to state.marks m
    → IsSoundTrace (record state { sequences = sequences; marks = marks })
IsSoundTrace-back state m lengths sequences marks sound found cut upto =
    subst (λ s. IsSoundTrace (record state { sequences = s; marks = marks })) (sym cut) (subst (λ n. IsSoundTrace (record state { sequences = cut_lists state.sequences lengths; marks = n })) (sym upto) (IsSoundTrace-cut state m lengths sound found))
