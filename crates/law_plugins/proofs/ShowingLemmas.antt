-- Of a host that hands out no function but those that its bodies were shown, nothing is unshown.
use Rattle.std.proofs.Common.{◌≡◌, ℕ, Bool, true, false, List, [], ◌∷◌, ◌++◌, Some, None, refl, sym, ap, ◌∙◌, subst, inl, inr}
use Rattle.std.specs.List.{list_any}
use Rattle.std.specs.Prelude.{not, filter, flat_map, if◌then◌else◌, Result, Ok, Err}
use Rattle.std.proofs.lemmas.Bool.{false≢true, and_parts, eqb-true, or_cases, or_parts}
use Rattle.wasm_types.specs.declared.faults.OutOfMemory.{OutOfMemory}
use Rattle.wasm_values.specs.Handles.{func_store, func_index}
use Rattle.wasm_values.specs.declared.externals.Extern.{Extern}
use Rattle.wasm_values.specs.declared.externals.Extern.TheVariants as x
use Rattle.wasm_values.specs.declared.handles.Func.{Func}
use Rattle.wasm_values.specs.declared.store_id.StoreId.{StoreId}
use Rattle.wasm_values.specs.declared.values.Val.{Val}
use Rattle.wasm_values.specs.declared.values.Val.TheVariants as v
use Rattle.spec_machine.specs.Values.{is_id}
use Rattle.spec_machine.specs.declared.name.Operand.{Operand}
use Rattle.spec_machine.specs.declared.name.Operand.TheVariants as operand
use Rattle.spec_machine.specs.declared.operation.Op.{Op}
use Rattle.spec_machine.specs.declared.operation.Op.TheVariants.{TableNew, TableSet, TableGrow, TableFill, GlobalNew, GlobalSet, Call}
use Rattle.spec_machine.specs.declared.reply.Reply.{Reply}
use Rattle.spec_machine.specs.declared.reply.Reply.TheVariants as reply
use Rattle.spec_execution.specs.Askings.{View, Question, Stepping, Answer, Stepped, Asking, Outside, Relations, Moves, Chain}
use Rattle.spec_execution.specs.declared.answer.Answer.{Answer as Say}
use Rattle.spec_execution.specs.declared.answer.Answer.TheVariants as say
use Rattle.spec_reach.specs.Nodes.{Node, func, has}
use Rattle.spec_reach.specs.Reach.{of_store, where_there}
use Rattle.spec_reach.specs.Reach as reach
use Rattle.spec_reach.specs.Roots as roots
use Rattle.law_store.proofs.Places.{id_back}
use Rattle.law_confined.specs.RunLaws.{IsShown}
use Rattle.law_confined.specs.Shown as confined
use Rattle.law_confined.proofs.AllMembers.{AllIn, all_none, all_in, all_front, all_back, one_in}
use Rattle.law_plugins.specs.Showing.{is_same, is_in_val, is_object, is_in_reply, Sight, sight_of, was_shown, is_strange, is_strange_operand, is_strange_in, is_strange_answer, as_shown, ShowsAlone}

module _ (id : StoreId) (seen : View) where
  -- whether a node was shown
  abbrev M : Node → Bool
  M = has (confined.shown id seen)

  -- a function, as a node of the store
  abbrev node : Func → List Node
  node f = of_store id (func_store f) (func (func_index f))

  same_node : (f g : Func) → is_same f g ≡ true → node g ≡ node f
  same_node f g e =
      let p = and_parts (is_id (func_store f) (func_store g)) _ e in
      let store : func_store g ≡ func_store f = sym (id_back (func_store f) (func_store g) p.0) in
      let place : func_index g ≡ func_index f = sym (eqb-true (func_index f) (func_index g) p.1) in
      ap (λ (s : StoreId). of_store id s (func (func_index g))) store
      ∙ ap (λ (n : ℕ). of_store id (func_store f) (func n)) place

  -- one among what each of a list gives
  module _ {A : Type 0} (p : A → Bool) (nodes : A → List Node) (f : Func)
      (by : (a : A) → p a ≡ true → AllIn M (nodes a) → AllIn M (node f)) where
    shown_among : (xs : List A) → list_any p xs ≡ true → AllIn M (flat_map nodes xs) → AllIn M (node f)
    shown_among [] e h = absurd (false≢true e)
    shown_among (a ∷ xs) e h =
        elim (or_cases (p a) (list_any p xs) e) [
          | inl q ↦ by a q (all_front M (nodes a) (flat_map nodes xs) h)
          | inr q ↦ shown_among xs q (all_back M (nodes a) (flat_map nodes xs) h)
        ]

  shown_one : (f g : Func) → is_same f g ≡ true → AllIn M (node g) → AllIn M (node f)
  shown_one f g e h = subst (AllIn M) (same_node f g e) h

  val_shown : (f : Func) (val : Val) → is_in_val f val ≡ true → AllIn M (roots.in_val id val) → AllIn M (node f)
  val_shown f (v.FuncRef (Some g)) e h = shown_one f g e h
  val_shown f (v.FuncRef None) e h = absurd (false≢true e)
  val_shown f (v.I32 n) e h = absurd (false≢true e)
  val_shown f (v.I64 n) e h = absurd (false≢true e)
  val_shown f (v.F32 n) e h = absurd (false≢true e)
  val_shown f (v.F64 n) e h = absurd (false≢true e)
  val_shown f (v.V128 n) e h = absurd (false≢true e)
  val_shown f (v.ExternRef n) e h = absurd (false≢true e)
  val_shown f (v.AnyRef n) e h = absurd (false≢true e)

  object_shown : (f : Func) (o : Extern) → is_object f o ≡ true → AllIn M (reach.in_object id o) → AllIn M (node f)
  object_shown f (x.Func g) e h = shown_one f g e h
  object_shown f (x.Global g) e h = absurd (false≢true e)
  object_shown f (x.Table g) e h = absurd (false≢true e)
  object_shown f (x.Memory g) e h = absurd (false≢true e)
  object_shown f (x.Tag g) e h = absurd (false≢true e)

  reply_shown : (f : Func) (r : Reply) → is_in_reply f r ≡ true → AllIn M (confined.in_reply id r) → AllIn M (node f)
  reply_shown f (reply.Object o) e h = object_shown f o e h
  reply_shown f (reply.Values vals) e h = shown_among (is_in_val f) (roots.in_val id) f (val_shown f) vals e h
  reply_shown f reply.Done e h = absurd (false≢true e)
  reply_shown f (reply.Number n) e h = absurd (false≢true e)
  reply_shown f (reply.Bytes n) e h = absurd (false≢true e)
  reply_shown f (reply.Instance n) e h = absurd (false≢true e)
  reply_shown f reply.Absent e h = absurd (false≢true e)
  reply_shown f (reply.Refused n) e h = absurd (false≢true e)

  abbrev shown : Sight
  shown = sight_of seen

  -- a function that was shown is a node that was shown
  function_shown : (f : Func) → was_shown shown f ≡ true → AllIn M (node f)
  function_shown f e =
      let all : AllIn M (confined.shown id seen) = record { by = λ n p. p } in
      let behind = all_back M (flat_map (roots.in_val id) seen.arguments) _ all in
      elim (or_cases (list_any (is_in_val f) seen.arguments) _ e) [
        | inl p ↦
            shown_among (is_in_val f) (roots.in_val id) f (val_shown f) seen.arguments p
            (all_front M (flat_map (roots.in_val id) seen.arguments) _ all)
        | inr q ↦ elim (or_cases (list_any (is_object f) seen.stored) (list_any (is_in_reply f) seen.replies) q) [
          | inl p ↦
              shown_among (is_object f) (reach.in_object id) f (object_shown f) seen.stored p
              (all_front M (flat_map (reach.in_object id) seen.stored) _ behind)
          | inr p ↦
              shown_among (is_in_reply f) (confined.in_reply id) f (reply_shown f) seen.replies p
              (all_front M (flat_map (confined.in_reply id) seen.replies) _
              (all_back M (flat_map (reach.in_object id) seen.stored) _ behind))
        ]
      ]

  -- ---- what is handed out

  not_false : (b : Bool) → not b ≡ false → b ≡ true
  not_false true e = refl
  not_false false e = absurd (false≢true (sym e))

  handed_val : (val : Val) → is_strange shown val ≡ false → AllIn M (roots.in_val id val)
  handed_val (v.FuncRef (Some f)) e = function_shown f (not_false (was_shown shown f) e)
  handed_val (v.FuncRef None) e = all_none M
  handed_val (v.I32 n) e = all_none M
  handed_val (v.I64 n) e = all_none M
  handed_val (v.F32 n) e = all_none M
  handed_val (v.F64 n) e = all_none M
  handed_val (v.V128 n) e = all_none M
  handed_val (v.ExternRef n) e = all_none M
  handed_val (v.AnyRef n) e = all_none M

  -- of each of a list
  module _ {A : Type 0} (p : A → Bool) (nodes : A → List Node) (by : (a : A) → p a ≡ false → AllIn M (nodes a)) where
    handed_all : (xs : List A) → list_any p xs ≡ false → AllIn M (flat_map nodes xs)
    handed_all [] e = all_none M
    handed_all (a ∷ xs) e =
        let q = or_parts (p a) (list_any p xs) e in
        all_in M (nodes a) (flat_map nodes xs) (by a q.0) (handed_all xs q.1)

  handed_literal : (o : Operand) → is_strange_operand shown o ≡ false → AllIn M (confined.literal id o)
  handed_literal (operand.Val val) e = handed_val val e
  handed_literal (operand.Named name) e = all_none M

  handed_by : (op : Op) → is_strange_in shown op ≡ false → AllIn M (confined.literals id op)
  handed_by (TableNew ty init) e = handed_literal init e
  handed_by (TableSet table at value) e = handed_literal value e
  handed_by (TableGrow table delta value) e = handed_literal value e
  handed_by (TableFill table at value len) e = handed_literal value e
  handed_by (GlobalNew ty init) e = handed_literal init e
  handed_by (GlobalSet global value) e = handed_literal value e
  handed_by (Call f args results) e = handed_all (is_strange_operand shown) (confined.literal id) handed_literal args e
  handed_by _ e = all_none M

  handed : (what : Say) → is_strange_answer shown what ≡ false → AllIn M (confined.handed_out id what)
  handed (say.Return vals) e = handed_all (is_strange shown) (roots.in_val id) handed_val vals e
  handed say.Fail e = all_none M
  handed (say.Call op) e = handed_by op e

  -- ---- nothing is unshown

  left_out : (b : Bool) (n : Node) (ns : List Node) → b ≡ true → (if not b then n ∷ ns else ns) ≡ ns
  left_out true n ns e = refl
  left_out false n ns e = absurd (false≢true e)

  none_left : (ns : List Node) → AllIn M ns → filter (λ n. not (M n)) ns ≡ []
  none_left [] h = refl
  none_left (n ∷ ns) h =
      left_out (M n) n (filter (λ k. not (M k)) ns) (one_in M n ns h)
      ∙ none_left ns (all_back M (n ∷ []) ns h)

  chosen : (b : Bool) (what : Say) → is_strange_answer shown what ≡ b →
      filter (λ n. not (M n)) (confined.handed_out id (if b then say.Fail else what)) ≡ []
  chosen true what e = refl
  chosen false what e = none_left (confined.handed_out id what) (handed what e)

  said_shown : (body state after : ℕ) (cause : _) (said : Result Say OutOfMemory) →
      confined.unshown_by id (Stepping body state cause seen) (Stepped after (as_shown seen said)) ≡ []
  said_shown body state after cause (Ok what) = chosen (is_strange_answer shown what) what refl
  said_shown body state after cause (Err none) = refl

module _ {T H E : Type 0} (r : Relations T H E) (alone : ShowsAlone r) (id : StoreId) where
  asking_shown : (old new : Outside T H E) (q : Question) (a : Answer) → Moves r old q a new →
      confined.unshown_by id q a ≡ []
  asking_shown old new (Stepping body state cause seen) (Stepped after what) m =
      let s = alone old.host new.host old.host_data new.host_data body state after cause seen what m.0 in
      ap (λ (w : Result Say OutOfMemory). confined.unshown_by id (Stepping body state cause seen) (Stepped after w)) s.1
      ∙ said_shown id seen body state after cause s.0
  asking_shown old new q a m = refl

  none_and : (xs ys : List Node) → xs ≡ [] → ys ≡ [] → (xs ++ ys) ≡ []
  none_and xs ys p q = ap (λ (ns : List Node). ns ++ ys) p ∙ q

  chain_shown : (old new : Outside T H E) (heard : List Asking) → Chain (Moves r) old heard new →
      confined.unshown id heard ≡ []
  chain_shown old new [] c = refl
  chain_shown old new (asking ∷ heard) c =
      none_and (confined.unshown_by id asking.0 asking.1) (confined.unshown id heard)
      (asking_shown old c.0 asking.0 asking.1 c.1) (chain_shown c.0 new heard c.2)

-- whatever is heard of such a host, nothing of it is unshown
pub shows_alone : {T H E : Type 0} (r : Relations T H E) → ShowsAlone r → (old new : Outside T H E)
    (heard : List Asking) → Chain (Moves r) old heard new → IsShown heard
shows_alone r alone old new heard c id = chain_shown r alone id old new heard c
