-- How many notes there were behind each command of a run.
use Rattle.std.proofs.Common.{inl, inr, ◌≡◌, ℕ, zero, suc, ◌+◌, List, [], ◌∷◌, ◌++◌, length, take, Some, refl, ap, sym, ◌∙◌, subst, append_assoc}
use Rattle.std.specs.Prelude.{◌⊎◌, slice_get}
use Rattle.std.proofs.lemmas.List.{append-nil}
use Rattle.wasm_syntax.specs.declared.declarations.ModuleDecl.{ModuleDecl}
use Rattle.spec_machine.specs.declared.command.Command.{Command}
use Rattle.spec_machine.specs.declared.reply.Reply.{Reply}
use Rattle.spec_execution.specs.Askings.{Asking}
use Rattle.wasm_call.specs.Outside.{Readings, Surrounded, Hears, outside}
use Rattle.wasm_session.specs.Sessions.{Runs}
use Rattle.wasm_session.proofs.Parts.{chain_then}
use Rattle.script_data.specs.declared.script_data.ScriptData.{ScriptData}
use Rattle.script_host.specs.ScriptSteps.{HostParts}
use Rattle.wasm_run.specs.NotedRuns.{IsCount, AreCounts, RunsNoted}
use Rattle.wasm_run.specs.Relations.{script_relations}

-- a count of a list and one more: one of the list, or that one
which : (counts : List ℕ) (n place count : ℕ) → slice_get (counts ++ n ∷ []) place ≡ Some count →
    (slice_get counts place ≡ Some count) ⊎ ((place ≡ length counts) × (count ≡ n))
which [] n zero count e = inr (refl, cc)
which [] n (suc place) count e = cc
which (c ∷ counts) n zero count e = inl e
which (c ∷ counts) n (suc place) count e = deeper (which counts n place count e) where
  deeper : (slice_get counts place ≡ Some count) ⊎ ((place ≡ length counts) × (count ≡ n)) →
      (slice_get counts place ≡ Some count) ⊎ ((suc place ≡ suc (length counts)) × (count ≡ n))
  deeper (inl found) = inl found
  deeper (inr last) = inr (ap suc last.0, last.1)

module _ {E : Type 0} (readings : Readings E) (modules : List ModuleDecl) (commands : List Command)
    (old : Surrounded ScriptData HostParts E) (replies : List Reply) where
  pub counts_none : (heard : List Asking) (new : Surrounded ScriptData HostParts E) (counts : List ℕ) → counts ≡ [] →
      AreCounts readings modules commands old replies heard new counts
  counts_none heard new [] e place count found = cc
  counts_none heard new (c ∷ counts) e place count found = cc

  -- what is heard further leaves them
  pub counts_kept : (heard further : List Asking) (mid new : Surrounded ScriptData HostParts E) (counts : List ℕ) →
      AreCounts readings modules commands old replies heard mid counts →
      Hears (script_relations readings) mid further new →
      AreCounts readings modules commands old replies (heard ++ further) new counts
  counts_kept heard further mid new counts are on place count found =
      let k = are place count found in
      record {
        mid = k.mid;
        so_far = k.so_far;
        ran = k.ran;
        later = k.later ++ further;
        in_order = ap (λ (x : List Asking). x ++ further) k.in_order ∙ append_assoc k.ran.heard k.later further;
        goes_on = chain_then (script_relations readings) (outside k.mid) (outside mid) (outside new) k.later further
            k.goes_on on;
        counted = k.counted;
      }

  -- the count behind the newest command
  newest : (i n : ℕ) (new : Surrounded ScriptData HostParts E) (all : List Reply) → n ≡ length new.host.notes →
      (r : Runs (script_relations readings) modules (take (i + 1) commands) old replies new all) →
      IsCount readings modules commands old replies r.heard new i n
  newest i n new all e r = record {
    mid = new;
    so_far = all;
    ran = r;
    later = [];
    in_order = sym (append-nil r.heard);
    goes_on = refl;
    counted = e;
  }

  counts_more : (i n : ℕ) (heard : List Asking) (new : Surrounded ScriptData HostParts E) (all : List Reply)
      (counts : List ℕ) → AreCounts readings modules commands old replies heard new counts → length counts ≡ i →
      n ≡ length new.host.notes →
      (r : Runs (script_relations readings) modules (take (i + 1) commands) old replies new all) → r.heard ≡ heard →
      AreCounts readings modules commands old replies heard new (counts ++ n ∷ [])
  counts_more i n heard new all counts are as_many e r same place count found =
      by (which counts n place count found) where
        by : (slice_get counts place ≡ Some count) ⊎ ((place ≡ length counts) × (count ≡ n)) →
            IsCount readings modules commands old replies heard new place count
        by (inl there) = are place count there
        by (inr last) =
            let P : ℕ → Type 0 = λ p. IsCount readings modules commands old replies heard new p count in
            let Q : ℕ → Type 0 = λ c. IsCount readings modules commands old replies heard new i c in
            let R : List Asking → Type 0 = λ h. IsCount readings modules commands old replies h new i n in
            subst P (sym (last.0 ∙ as_many)) (subst Q (sym last.1) (subst R same (newest i n new all e r)))

  -- one command more, and the count behind it
  pub counts_next : (i n : ℕ) (heard further : List Asking) (mid new : Surrounded ScriptData HostParts E)
      (all : List Reply) (counts more : List ℕ) → AreCounts readings modules commands old replies heard mid counts →
      Hears (script_relations readings) mid further new → length counts ≡ i → n ≡ length new.host.notes →
      (r : Runs (script_relations readings) modules (take (i + 1) commands) old replies new all) →
      r.heard ≡ heard ++ further → more ≡ counts ++ n ∷ [] →
      AreCounts readings modules commands old replies (heard ++ further) new more
  counts_next i n heard further mid new all counts more are on as_many e r same m =
      let P : List ℕ → Type 0 = λ cs. AreCounts readings modules commands old replies (heard ++ further) new cs in
      subst P (sym m) (counts_more i n (heard ++ further) new all counts
      (counts_kept heard further mid new counts are on) as_many e r same)

  -- all commands were run
  pub noted_all : (first : List Command) (new : Surrounded ScriptData HostParts E) (all : List Reply)
      (counts : List ℕ) → first ≡ commands → length counts ≡ length commands →
      (r : Runs (script_relations readings) modules first old replies new all) →
      AreCounts readings modules commands old replies r.heard new counts →
      RunsNoted readings modules commands old replies new all counts
  noted_all first new all counts e as_many =
      let P : List Command → Type 0 = λ cs.
      (r : Runs (script_relations readings) modules cs old replies new all) →
      AreCounts readings modules commands old replies r.heard new counts →
      RunsNoted readings modules commands old replies new all counts in
      subst P (sym e) (λ r are. record { runs = r; counted = as_many; counts_are = are })
