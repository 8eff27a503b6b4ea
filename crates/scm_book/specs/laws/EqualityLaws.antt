-- `==` of calls and of replies says whether they are the same as data.
use Rattle.std.proofs.Common.{rules, ◌≡◌, ℕ, List, Bool, ◌&&◌, ◌==◌}
use Rattle.std.specs.Arc.{arc_value}
use Rattle.std.specs.Bool.{Decides}
use Rattle.std.specs.Cmp.{unsigned_Decides}
use Rattle.std.specs.Cmp.Lexicographic.{pointwise_decides}
use Rattle.scm_lowering.specs.declared.access.Access.{Access}
use Rattle.scm_lowering.specs.laws.AccessLaws.{access_eq-Decides}
use Rattle.scm_cells.specs.CellLists.{name_eq}
use Rattle.scm_cells.specs.laws.NameLaws.{name_eq-Decides}
use Rattle.scm_frontier.specs.laws.ComparisonLaws.{situated_eq-Decides, option_eq-Decides}
use Rattle.scm_orders.specs.laws.DerivationLaws.{derivation_eq-Decides}
use Rattle.scm_book.specs.declared.call.Decl.{Decl}
use Rattle.scm_book.specs.declared.call.Call.{Call}
use Rattle.scm_book.specs.declared.call.Call.TheVariants.{OpenTrace, ClaimProcess, ReleaseProcess, Report, SetMark, GoBack, RaiseBudget, Ask, Why, Cycle, ShowOps, ListTraces, CloseTrace}
use Rattle.scm_book.specs.declared.reply.Shown.{Shown}
use Rattle.scm_book.specs.declared.reply.Reply.{Reply}
use Rattle.scm_book.specs.declared.reply.Reply.TheVariants.{Done, MarkSet, Consistent, Inconsistent, Undecided, Because, Cycle as CycleFound, Unknown, Ops, Traces, Refused}
use Rattle.scm_book.specs.contracts.call.DeclPartialEq.TheImpl as decls
use Rattle.scm_book.specs.contracts.call.CallPartialEq.TheImpl as calls
use Rattle.scm_book.specs.contracts.reply.ShownPartialEq.TheImpl as shown
use Rattle.scm_book.specs.contracts.reply.ReplyPartialEq.TheImpl as replies
use Rattle.scm_book.specs.Machine.{reports, call_data, listed, reply_data}

decl_eq-Decides : (a b : Decl) → Decides (decls.ghosts.eq a b) (a ≡ b)
decl_eq-Decides a b = search (rules, name_eq-Decides)

shown_eq-Decides : (a b : Shown) → Decides (shown.ghosts.eq a b) (a ≡ b)
shown_eq-Decides a b = search (rules, name_eq-Decides)

opens_Decides : (name : _) (procs : _) (budget : _) (cells others : _) → Decides (calls.ghosts.eq (OpenTrace name procs budget cells) (OpenTrace name procs budget others)) (cells.items ≡ others.items)
opens_Decides name procs budget cells others = search (rules, name_eq-Decides, pointwise_decides decl_eq-Decides cells.items others.items)

reports_Decides : (names accesses : Bool) (name n : List ℕ) (process p : ℕ) (access a : Access) → Decides names (name ≡ n) → Decides accesses (access ≡ a)
    → Decides (names && (process == p && accesses)) (reports name process access ≡ reports n p a)
reports_Decides names accesses name n process p access a names_are accesses_are = search rules

pub call_eq-Decides : (a b : Call) → Decides (calls.ghosts.eq a b) (call_data a ≡ call_data b)
call_eq-Decides (OpenTrace name procs budget cells) b = search (rules, name_eq-Decides, opens_Decides)
call_eq-Decides (ClaimProcess name process) b = search (rules, name_eq-Decides)
call_eq-Decides (ReleaseProcess name process) b = search (rules, name_eq-Decides)
call_eq-Decides (Report name process access) (Report n p a) = reports_Decides _ _ name n process p access a (name_eq-Decides name n) (access_eq-Decides access a)
call_eq-Decides (Report name process access) (OpenTrace n p u c) = search rules
call_eq-Decides (Report name process access) (ClaimProcess n p) = search rules
call_eq-Decides (Report name process access) (ReleaseProcess n p) = search rules
call_eq-Decides (Report name process access) (SetMark n) = search rules
call_eq-Decides (Report name process access) (GoBack n m) = search rules
call_eq-Decides (Report name process access) (RaiseBudget n u) = search rules
call_eq-Decides (Report name process access) (Ask n m) = search rules
call_eq-Decides (Report name process access) (Why n m) = search rules
call_eq-Decides (Report name process access) (Cycle n m) = search rules
call_eq-Decides (Report name process access) (ShowOps n p) = search rules
call_eq-Decides (Report name process access) ListTraces = search rules
call_eq-Decides (Report name process access) (CloseTrace n) = search rules
call_eq-Decides (SetMark name) b = search (rules, name_eq-Decides)
call_eq-Decides (GoBack name mark) b = search (rules, name_eq-Decides)
call_eq-Decides (RaiseBudget name budget) b = search (rules, name_eq-Decides)
call_eq-Decides (Ask name mark) b = search (rules, name_eq-Decides, option_eq-Decides)
call_eq-Decides (Why name mark) b = search (rules, name_eq-Decides, option_eq-Decides)
call_eq-Decides (Cycle name mark) b = search (rules, name_eq-Decides, option_eq-Decides)
call_eq-Decides (ShowOps name process) b = search (rules, name_eq-Decides)
call_eq-Decides ListTraces b = search rules
call_eq-Decides (CloseTrace name) b = search (rules, name_eq-Decides)

because_Decides : (xs ys : _) → Decides (replies.ghosts.eq (Because xs) (Because ys)) ((arc_value xs).items ≡ (arc_value ys).items)
because_Decides xs ys = pointwise_decides situated_eq-Decides (arc_value xs).items (arc_value ys).items

ops_Decides : (xs ys : _) → Decides (replies.ghosts.eq (Ops xs) (Ops ys)) ((arc_value xs).items ≡ (arc_value ys).items)
ops_Decides xs ys = pointwise_decides shown_eq-Decides (arc_value xs).items (arc_value ys).items

traces_Decides : (xs ys : _) → Decides (replies.ghosts.eq (Traces xs) (Traces ys)) (listed (arc_value xs).items ≡ listed (arc_value ys).items)
traces_Decides xs ys = search (rules, pointwise_decides name_eq-Decides (arc_value xs).items (arc_value ys).items)

fixed_eq-Decides : (a b : List ℕ × ℕ) → Decides (name_eq a.0 b.0 && (a.1 == b.1)) (a ≡ b)
fixed_eq-Decides a b = search (rules, name_eq-Decides)

consistent_Decides : (a b : _) → Decides (replies.ghosts.eq (Consistent a) (Consistent b)) (reply_data (Consistent a) ≡ reply_data (Consistent b))
consistent_Decides a b = search (rules, pointwise_decides unsigned_Decides (arc_value a).schedule.items (arc_value b).schedule.items, pointwise_decides fixed_eq-Decides (arc_value a).fixed.items (arc_value b).fixed.items)

pub reply_eq-Decides : (a b : Reply) → Decides (replies.ghosts.eq a b) (reply_data a ≡ reply_data b)
reply_eq-Decides Done b = search rules
reply_eq-Decides (MarkSet mark) b = search rules
reply_eq-Decides (Consistent witness) (Consistent w) = consistent_Decides witness w
reply_eq-Decides (Consistent witness) Done = search rules
reply_eq-Decides (Consistent witness) (MarkSet m) = search rules
reply_eq-Decides (Consistent witness) Inconsistent = search rules
reply_eq-Decides (Consistent witness) Undecided = search rules
reply_eq-Decides (Consistent witness) (Because s) = search rules
reply_eq-Decides (Consistent witness) (CycleFound d) = search rules
reply_eq-Decides (Consistent witness) Unknown = search rules
reply_eq-Decides (Consistent witness) (Ops o) = search rules
reply_eq-Decides (Consistent witness) (Traces n) = search rules
reply_eq-Decides (Consistent witness) (Refused r) = search rules
reply_eq-Decides Inconsistent b = search rules
reply_eq-Decides Undecided b = search rules
reply_eq-Decides (Because situations) b = search (rules, because_Decides)
reply_eq-Decides (CycleFound derivation) b = search (rules, derivation_eq-Decides)
reply_eq-Decides Unknown b = search rules
reply_eq-Decides (Ops operations) b = search (rules, ops_Decides)
reply_eq-Decides (Traces names) (Traces n) = traces_Decides names n
reply_eq-Decides (Traces names) Done = search rules
reply_eq-Decides (Traces names) (MarkSet m) = search rules
reply_eq-Decides (Traces names) (Consistent w) = search rules
reply_eq-Decides (Traces names) Inconsistent = search rules
reply_eq-Decides (Traces names) Undecided = search rules
reply_eq-Decides (Traces names) (Because s) = search rules
reply_eq-Decides (Traces names) (CycleFound d) = search rules
reply_eq-Decides (Traces names) Unknown = search rules
reply_eq-Decides (Traces names) (Ops o) = search rules
reply_eq-Decides (Traces names) (Refused r) = search rules
reply_eq-Decides (Refused refusal) b = search rules
