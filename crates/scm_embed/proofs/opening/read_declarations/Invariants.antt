use Rattle.std.proofs.Common.{◌≡◌, ◌++◌, drop, option_map}
use Rattle.scm_embed.specs.Exports.{all_declarations}
use Rattle.scm_embed.proofs.opening.read_declarations.Given as goal

-- the declarations are those so far, and those of the cells that are left
abbrev pub invariant-loop-cell : goal.invariant-loop-cell
invariant-loop-cell l =
    all_declarations l.names l.cells ≡ option_map (λ decls. l.decls.items ++ decls) (all_declarations l.names (drop l.cell-index l.cells))
