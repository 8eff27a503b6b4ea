-- The names and the passes of the sessions that entered are gathered group by group.
use Rattle.std.proofs.Common.{◌≡◌, ℕ, ◌≤◌, ◌<◌, List, [], ◌∷◌, ◌++◌, length, ap, ◌∙◌, arith, length-append, Option, None, Some}
use Rattle.std.proofs.lemmas.List.{flat_map_more}
use Rattle.scm_shared.specs.Passes.{Known}
use Rattle.scm_sessions.specs.inner.Jobs.{JobData, names_in, passes_in, entered_names, entered_passes}

names_most : (name : Option (List ℕ)) (pass : Option Known) → length (names_in name pass) ≤ 1
names_most None pass = omega arith
names_most (Some name) None = omega arith
names_most (Some name) (Some pass) = omega arith

passes_most : (name : Option (List ℕ)) (pass : Option Known) → length (passes_in name pass) ≤ 1
passes_most None pass = omega arith
passes_most (Some name) None = omega arith
passes_most (Some name) (Some pass) = omega arith

entered_names_most : (jobs : List JobData) → length (entered_names jobs) ≤ length jobs
entered_names_most [] = omega arith
entered_names_most (job ∷ jobs) =
    let rest = entered_names_most jobs in
    omega (arith, rest, names_most job.name job.pass, length-append (names_in job.name job.pass) (entered_names jobs))

entered_passes_most : (jobs : List JobData) → length (entered_passes jobs) ≤ length jobs
entered_passes_most [] = omega arith
entered_passes_most (job ∷ jobs) =
    let rest = entered_passes_most jobs in
    omega (arith, rest, passes_most job.name job.pass, length-append (passes_in job.name job.pass) (entered_passes jobs))

-- there is room for one more, where there is room for as many as there are groups
pub name_fits : (names : List (List ℕ)) (done : List JobData) (most room : ℕ) → names ≡ entered_names done → length done < most → most ≤ room → length names < room
name_fits names done most room are within fits = omega (arith, ap length are, entered_names_most done, within, fits)

pub pass_fits : (passes : List Known) (done : List JobData) (most room : ℕ) → passes ≡ entered_passes done → length done < most → most ≤ room → length passes < room
pass_fits passes done most room are within fits = omega (arith, ap length are, entered_passes_most done, within, fits)

-- one group more
pub names_more : (old new : List (List ℕ)) (done : List JobData) (job : JobData) → new ≡ old ++ names_in job.name job.pass → old ≡ entered_names done
    → new ≡ entered_names (done ++ job ∷ [])
names_more old new done job more are =
    more ∙ ap (λ (names : List (List ℕ)). names ++ names_in job.name job.pass) are
    ∙ flat_map_more (λ (j : JobData). names_in j.name j.pass) [] done job

pub passes_more : (old new : List Known) (done : List JobData) (job : JobData) → new ≡ old ++ passes_in job.name job.pass → old ≡ entered_passes done
    → new ≡ entered_passes (done ++ job ∷ [])
passes_more old new done job more are =
    more ∙ ap (λ (passes : List Known). passes ++ passes_in job.name job.pass) are
    ∙ flat_map_more (λ (j : JobData). passes_in j.name j.pass) [] done job
