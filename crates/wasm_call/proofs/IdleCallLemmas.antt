-- A call by the host with no turns.
use Rattle.std.proofs.Common.{◌≡◌, ℕ, inl, List, ◌++◌, Option, Some, refl, ap, sym, ◌∙◌, subst, arith}
use Rattle.wasm_objects.specs.declared.raw.RawVal.{RawVal}
use Rattle.spec_machine.specs.Machine.{Machine}
use Rattle.spec_execution.specs.Askings.{Answer, Asking, Outside, Relations, answers_in}
use Rattle.spec_execution.specs.Outcomes.{world}
use Rattle.code_leaps.specs.Leading.{halted}
use Rattle.code_hosts.specs.Entering.{calling}
use Rattle.code_hosts.specs.declared.replies.Unfinished.{Unfinished}
use Rattle.code_hosts.proofs.IdleCallLemmas as hosts
use Rattle.store_objects.specs.declared.objects.ObjectParts.{ObjectParts}
use Rattle.wasm_call.specs.Invoking.{machine_in, setting_in, RunUnfinishes}
use Rattle.wasm_call.specs.Outside.{typed}
use Rattle.wasm_call.proofs.RunEndLemmas.{put_is}

-- in this store
module _ {T H E : Type 0} (r : Relations T H E) (o : Outside T H E) (n : ℕ) (args : List RawVal) (caller : Option ℕ)
    (m : Machine) where
  abbrev pub Idles : Type 0
  Idles = hosts.Idles (typed r) o m.is_hooked m.engine.frames m.functions 0 n args caller

  pub idles : Idles
  idles =
      hosts.idles (typed r) o m.is_hooked m.engine.frames m.functions 0 n args caller (r.has o.host)
      (λ body. (tt, (refl, refl)))

  pub idle_halts : (y : Idles) (before : List Asking) (rest : List Answer) →
      halted (calling n args caller (world m 0 before (answers_in y.heard ++ rest)))
      ≡ Some (world m 0 (before ++ y.heard) rest)
  idle_halts y = y.halts m (record { hooked_is = refl; frames_are = refl; functions_are = refl })

-- so of a run for which there was no memory before its first turn
pub idle_run : {T H E : Type 0} (r : Relations T H E) (o : Outside T H E) (p : ObjectParts) (n : ℕ) (args : List RawVal)
    (caller : Option ℕ) (turns : ℕ) (u : Unfinished) → u.turns ≡ 0 → Idles r o n args caller (machine_in p) →
    RunUnfinishes (typed r) p n args turns o p.held o u caller
idle_run r o p n args caller turns u none y =
    inl (record {
      within = omega (arith, none);
      heard = y.heard;
      chain = y.chain;
      halts = record {
        by = λ base b before rest.
            ap (λ (k : ℕ). halted (calling n args caller
            (world ((setting_in p turns).put base p.held) k before (answers_in y.heard ++ rest)))) none
            ∙ subst (λ (m : Machine). halted (calling n args caller (world m 0 before (answers_in y.heard ++ rest)))
            ≡ Some (world m 0 (before ++ y.heard) rest)) (sym (put_is p turns base b p.held))
            (idle_halts r o n args caller (machine_in p) y before rest);
      };
    })
