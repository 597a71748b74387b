use Rattle.code_leaps.proofs.leaps.innermost_loop.Goals as goal

pub returns-in-Some : goal.returns-in-Some
returns-in-Some c = λ further. c.in-Some.ensures further
