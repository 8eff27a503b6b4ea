-- The entries of the map of traces, read and written by the words of the machine and of the sets.
use Rattle.std.proofs.Common.{◌≡◌, ℕ, Bool, true, false, cond, List, [], ◌∷◌, ◌++◌, map, Option, None, Some, is_some, length, refl, sym, ap, ◌∙◌}
use Rattle.std.proofs.lemmas.List.{length-map}
use Rattle.std.proofs.lemmas.Map.Made.{lookup-map_values}
use Rattle.std.proofs.lemmas.Map.Steps.{set_value_same}
use Rattle.std.specs.Map.{lookup, set_value, remove_entry}
use Rattle.std.specs.Option.{option_map}
use Rattle.indexmap.specs.IndexMap.{insert_entry}
use Rattle.scm_cells.specs.CellLists.{name_eq}
use Rattle.scm_reach.specs.Kept.{Kept}
use Rattle.scm_book.specs.Machine.{Machine, TraceState, trace_names, state_named, trace_named, with_state, with_trace, without_state, without_trace}
use Rattle.scm_book.specs.inner.Sets.{KeptTrace, machine_in, sets_in, set_named}

-- ---- the words of a map

lookup-state_named : (name : List ℕ) (entries : List (List ℕ × TraceState)) → lookup (name_eq name) entries ≡ state_named entries name
lookup-state_named name [] = refl
lookup-state_named name (e ∷ es) = ap (cond (name_eq name e.0) (Some e.1)) (lookup-state_named name es)

insert_entry-with_state : (name : List ℕ) (state : TraceState) (entries : List (List ℕ × TraceState)) → insert_entry name_eq entries name state ≡ with_state entries name state
insert_entry-with_state name state [] = refl
insert_entry-with_state name state (e ∷ es) = ap (λ rest. cond (name_eq name e.0) ((e.0, state) ∷ es) (e ∷ rest)) (insert_entry-with_state name state es)

remove_entry-without_state : (name : List ℕ) (entries : List (List ℕ × TraceState)) → remove_entry (name_eq name) entries ≡ without_state entries name
remove_entry-without_state name [] = refl
remove_entry-without_state name (e ∷ es) = ap (λ rest. cond (name_eq name e.0) es (e ∷ rest)) (remove_entry-without_state name es)

-- a write where the name is there
set_value-with_state : (name : List ℕ) (old state : TraceState) (entries : List (List ℕ × TraceState)) → state_named entries name ≡ Some old → set_value (name_eq name) entries state ≡ with_state entries name state
set_value-with_state name old state [] found = cc
set_value-with_state name old state (e ∷ es) found = by (name_eq name e.0) (set_value-with_state name old state es) found
  where
    by : (here : Bool) → (state_named es name ≡ Some old → set_value (name_eq name) es state ≡ with_state es name state) → cond here (Some e.1) (state_named es name) ≡ Some old
        → cond here ((e.0, state) ∷ es) (e ∷ set_value (name_eq name) es state) ≡ cond here ((e.0, state) ∷ es) (e ∷ with_state es name state)
    by true rest found = refl
    by false rest found = ap (λ others. e ∷ others) (rest found)

-- ---- a map of the values

module _ {X Y : Type 0} (f : X → Y) where
  -- each value as f gives it
  abbrev valued : List (List ℕ × X) → List (List ℕ × Y)
  valued entries = map (λ e. (e.0, f e.1)) entries

  set_value-valued : (test : List ℕ → Bool) (x : X) (entries : List (List ℕ × X)) → valued (set_value test entries x) ≡ set_value test (valued entries) (f x)
  set_value-valued test x [] = refl
  set_value-valued test x (e ∷ es) = by (test e.0) (set_value-valued test x es) where
    by : (here : Bool) → valued (set_value test es x) ≡ set_value test (valued es) (f x)
        → valued (cond here ((e.0, x) ∷ es) (e ∷ set_value test es x)) ≡ cond here ((e.0, f x) ∷ valued es) ((e.0, f e.1) ∷ set_value test (valued es) (f x))
    by true rest = refl
    by false rest = ap (λ others. (e.0, f e.1) ∷ others) rest

  remove_entry-valued : (test : List ℕ → Bool) (entries : List (List ℕ × X)) → valued (remove_entry test entries) ≡ remove_entry test (valued entries)
  remove_entry-valued test [] = refl
  remove_entry-valued test (e ∷ es) = by (test e.0) (remove_entry-valued test es) where
    by : (here : Bool) → valued (remove_entry test es) ≡ remove_entry test (valued es) → valued (cond here es (e ∷ remove_entry test es)) ≡ cond here (valued es) ((e.0, f e.1) ∷ remove_entry test (valued es))
    by true rest = refl
    by false rest = ap (λ others. (e.0, f e.1) ∷ others) rest

  insert_entry-valued : (name : List ℕ) (x : X) (entries : List (List ℕ × X)) → valued (insert_entry name_eq entries name x) ≡ insert_entry name_eq (valued entries) name (f x)
  insert_entry-valued name x [] = refl
  insert_entry-valued name x (e ∷ es) = by (name_eq name e.0) (insert_entry-valued name x es) where
    by : (here : Bool) → valued (insert_entry name_eq es name x) ≡ insert_entry name_eq (valued es) name (f x)
        → valued (cond here ((e.0, x) ∷ es) (e ∷ insert_entry name_eq es name x)) ≡ cond here ((e.0, f x) ∷ valued es) ((e.0, f e.1) ∷ insert_entry name_eq (valued es) name (f x))
    by true rest = refl
    by false rest = ap (λ others. (e.0, f e.1) ∷ others) rest

-- a new name stands last
insert_entry-last : {X : Type 0} (name : List ℕ) (x : X) (entries : List (List ℕ × X)) → is_some (lookup (name_eq name) entries) ≡ false → insert_entry name_eq entries name x ≡ entries ++ (name, x) ∷ []
insert_entry-last name x [] absent = refl
insert_entry-last {X} name x (e ∷ es) absent = by (name_eq name e.0) (insert_entry-last name x es) absent where
  by : (here : Bool) → (is_some (lookup (name_eq name) es) ≡ false → insert_entry name_eq es name x ≡ es ++ (name, x) ∷ []) → is_some (cond here (Some e.1) (lookup (name_eq name) es)) ≡ false
      → cond here ((e.0, x) ∷ es) (e ∷ insert_entry name_eq es name x) ≡ e ∷ (es ++ (name, x) ∷ [])
  by true rest absent = let no : true ≡ false = absent in cc
  by false rest absent = ap (λ others. e ∷ others) (rest absent)

-- ---- the machine and the sets that these entries are

abbrev pub state_of : KeptTrace → TraceState
state_of k = k.state

abbrev pub set_of : KeptTrace → Kept
set_of k = k.set

abbrev machine_of : List (List ℕ × TraceState) → Machine
machine_of entries = record { traces = entries }

module _ (traces entries : List (List ℕ × KeptTrace)) (is : entries ≡ traces) (name : List ℕ) where
  machine_is : machine_in entries ≡ machine_in traces
  machine_is = ap machine_in is

  pub trace_named-lookup : (o : Option KeptTrace) → o ≡ lookup (name_eq name) entries → trace_named (machine_in traces) name ≡ option_map state_of o
  trace_named-lookup o found =
      sym (ap (λ (m : Machine). trace_named m name) machine_is) ∙ sym (lookup-state_named name (valued state_of entries)) ∙ lookup-map_values state_of (name_eq name) entries ∙ sym (ap (option_map state_of) found)

  pub set_named-lookup : (o : Option KeptTrace) → o ≡ lookup (name_eq name) entries → set_named (sets_in traces) name ≡ option_map set_of o
  set_named-lookup o found = sym (ap (λ ts. set_named (sets_in ts) name) is) ∙ lookup-map_values set_of (name_eq name) entries ∙ sym (ap (option_map set_of) found)

  -- nothing was written
  module _ (new : List (List ℕ × KeptTrace)) (same : new ≡ entries) where
    pub machine-same : machine_in new ≡ machine_in traces
    machine-same = ap machine_in (same ∙ is)

    pub sets-same : sets_in new ≡ sets_in traces
    sets-same = ap sets_in (same ∙ is)

  -- the trace of this name was written
  module _ (old k : KeptTrace) (new : List (List ℕ × KeptTrace)) (found : Some old ≡ lookup (name_eq name) entries) (set : new ≡ set_value (name_eq name) entries k) where
    pub machine-set_value : machine_in new ≡ with_trace (machine_in traces) name k.state
    machine-set_value =
        ap machine_in set ∙ ap machine_of (set_value-valued state_of (name_eq name) k entries)
        ∙ ap machine_of (set_value-with_state name old.state k.state (valued state_of entries) (sym (lookup-state_named name (valued state_of entries)) ∙ lookup-map_values state_of (name_eq name) entries ∙ sym (ap (option_map state_of) found)))
        ∙ ap (λ (m : Machine). with_trace m name k.state) machine_is

    pub machine-set_same : k.state ≡ old.state → machine_in new ≡ machine_in traces
    machine-set_same same =
        ap machine_in set ∙ ap machine_of (set_value-valued state_of (name_eq name) k entries)
        ∙ ap machine_of (ap (set_value (name_eq name) (valued state_of entries)) same ∙ set_value_same (name_eq name) (valued state_of entries) old.state (lookup-map_values state_of (name_eq name) entries ∙ sym (ap (option_map state_of) found)))
        ∙ machine_is

    pub sets-set_value : sets_in new ≡ set_value (name_eq name) (sets_in traces) k.set
    sets-set_value = ap sets_in set ∙ set_value-valued set_of (name_eq name) k entries ∙ ap (λ ts. set_value (name_eq name) (sets_in ts) k.set) is

    pub sets-set_same : k.set ≡ old.set → sets_in new ≡ sets_in traces
    sets-set_same same =
        ap sets_in set ∙ set_value-valued set_of (name_eq name) k entries ∙ ap (set_value (name_eq name) (sets_in entries)) same
        ∙ set_value_same (name_eq name) (sets_in entries) old.set (lookup-map_values set_of (name_eq name) entries ∙ sym (ap (option_map set_of) found))
        ∙ ap sets_in is

  -- a trace was put under this name
  module _ (k : KeptTrace) (new : List (List ℕ × KeptTrace)) (inserted : new ≡ insert_entry name_eq entries name k) where
    pub machine-inserted : machine_in new ≡ with_trace (machine_in traces) name k.state
    machine-inserted =
        ap machine_in inserted ∙ ap machine_of (insert_entry-valued state_of name k entries ∙ insert_entry-with_state name k.state (valued state_of entries)) ∙ ap (λ (m : Machine). with_trace m name k.state) machine_is

    pub sets-inserted : is_some (lookup (name_eq name) entries) ≡ false → sets_in new ≡ sets_in traces ++ (name, k.set) ∷ []
    sets-inserted absent =
        ap sets_in (inserted ∙ insert_entry-last name k entries absent) ∙ map-last entries ∙ ap (λ ts. sets_in ts ++ (name, k.set) ∷ []) is
      where
        map-last : (es : List (List ℕ × KeptTrace)) → sets_in (es ++ (name, k) ∷ []) ≡ sets_in es ++ (name, k.set) ∷ []
        map-last [] = refl
        map-last (e ∷ es) = ap (λ others. (e.0, e.1.set) ∷ others) (map-last es)

  -- the trace of this name was taken out
  module _ (new : List (List ℕ × KeptTrace)) (removed : new ≡ remove_entry (name_eq name) entries) where
    pub machine-removed : machine_in new ≡ without_trace (machine_in traces) name
    machine-removed =
        ap machine_in removed ∙ ap machine_of (remove_entry-valued state_of (name_eq name) entries ∙ remove_entry-without_state name (valued state_of entries)) ∙ ap (λ (m : Machine). without_trace m name) machine_is

    pub sets-removed : sets_in new ≡ remove_entry (name_eq name) (sets_in traces)
    sets-removed = ap sets_in removed ∙ remove_entry-valued set_of (name_eq name) entries ∙ ap (λ ts. remove_entry (name_eq name) (sets_in ts)) is

  pub has_trace : is_some (trace_named (machine_in traces) name) ≡ is_some (lookup (name_eq name) entries)
  has_trace = ap is_some (trace_named-lookup (lookup (name_eq name) entries) refl) ∙ still (lookup (name_eq name) entries) where
    still : (o : Option KeptTrace) → is_some (option_map state_of o) ≡ is_some o
    still None = refl
    still (Some k) = refl

  pub length-traces : length (machine_in traces).traces ≡ length entries
  length-traces = ap (λ (m : Machine). length m.traces) (sym machine_is) ∙ length-map entries (λ e. (e.0, e.1.state))

pub names-machine_in : (traces : List (List ℕ × KeptTrace)) → map (λ t. t.0) traces ≡ trace_names (machine_in traces)
names-machine_in [] = refl
names-machine_in (t ∷ ts) = ap (λ others. t.0 ∷ others) (names-machine_in ts)
