-- The combinators of typing and of execution side by side, one lemma each: what holds of each way to go on holds of the
-- combinator.
use Rattle.std.proofs.Common.{◌≡◌, ℕ, ◌==◌, Bool, true, false, ◌||◌, List, [], ◌∷◌, ◌++◌, length, take, drop, leb, Option, Some, None, if◌then◌else◌, refl, sym, ap, ◌∙◌, subst, inl, inr, arith, length-append}
use Rattle.std.proofs.lemmas.Bool.{le-leb}
use Rattle.wasm_types.specs.Matching.{val_matches}
use Rattle.wasm_types.proofs.MatchingLemmas.{no}
use Rattle.wasm_types.specs.declared.value_types.RefType.{RefType}
use Rattle.wasm_types.specs.declared.value_types.ValType.{ValType}
use Rattle.wasm_types.specs.declared.value_types.ValType.TheVariants as t
use Rattle.wasm_syntax.specs.Instructions.{store_type}
use Rattle.wasm_syntax.specs.Operators.{integer_type, unsigned, binary_width, unary_width, binary_operands, unary_operand}
use Rattle.wasm_syntax.specs.Typing.{Typed, IllTyped, there, given, want_any, want, want_from_top, want_reference, is_reference}
use Rattle.wasm_syntax.proofs.OperatorWidths.{unary_32_or_64, binary_32_or_64}
use Rattle.wasm_syntax.specs.declared.accesses.StoreOp.{StoreOp}
use Rattle.wasm_syntax.specs.declared.accesses.StoreOp.TheVariants as s
use Rattle.wasm_syntax.specs.declared.operators.BinOp.{BinOp}
use Rattle.wasm_syntax.specs.declared.operators.UnOp.{UnOp}
use Rattle.wasm_objects.specs.declared.raw.RawRef.{RawRef}
use Rattle.wasm_objects.specs.declared.raw.RawVal.{RawVal}
use Rattle.wasm_objects.specs.declared.raw.RawVal.TheVariants as w
use Rattle.spec_machine.specs.Machine.{Machine}
use Rattle.spec_machine.specs.Values.{raw_ref_fits, raw_val_fits}
use Rattle.spec_machine.specs.WellFormed.{is_raw_ref}
use Rattle.spec_execution.specs.Operands as on
use Rattle.spec_execution.specs.Straight.{store_shape}
use Rattle.law_code.specs.Typed.{HasType, HaveTypes}
use Rattle.law_code.proofs.TypedValues.{ref_val_fits, no_number, has_along, have_length, have_front, have_rest}

-- ---- widths of integers

abbrev pub is_width : ℕ → Bool
is_width n = n == 32 || n == 64

pub unary_is : (op : UnOp) → is_width (unary_width op) ≡ true
unary_is op = elim (unary_32_or_64 op) [ inl h ↦ ap is_width h.0 | inr h ↦ ap is_width h.0 ]

pub binary_is : (op : BinOp) → is_width (binary_width op) ≡ true
binary_is op = elim (binary_32_or_64 op) [ inl h ↦ ap is_width h.0 | inr h ↦ ap is_width h.0 ]

-- ---- what a value of a type holds

module _ (m : Machine) where
  holds_by : (b c : Bool) (n : ℕ) (v : RawVal) → (n == 32) ≡ b → (n == 64) ≡ c → (b || c) ≡ true →
      raw_val_fits m v (if b then t.I32 else t.I64) ≡ true → (x : ℕ) × (on.integer_in n v ≡ Some x)
  holds_by true c n (w.I32 z) p q h f = (unsigned 32 z, ap (λ b. if b then Some (unsigned 32 z) else None) p)
  holds_by false true n (w.I64 z) p q h f = (unsigned 64 z, ap (λ b. if b then Some (unsigned 64 z) else None) q)
  holds_by true c n (w.I64 z) p q h f = no f
  holds_by true c n (w.F32 z) p q h f = no f
  holds_by true c n (w.F64 z) p q h f = no f
  holds_by true c n (w.V128 z) p q h f = no f
  holds_by true c n (w.Reference r) p q h f = no_number m r t.I32 (λ a. refl) f
  holds_by false true n (w.I32 z) p q h f = no f
  holds_by false true n (w.F32 z) p q h f = no f
  holds_by false true n (w.F64 z) p q h f = no f
  holds_by false true n (w.V128 z) p q h f = no f
  holds_by false true n (w.Reference r) p q h f = no_number m r t.I64 (λ a. refl) f
  holds_by false false n v p q h f = no h

  pub holds : (n : ℕ) (ty : ValType) (v : RawVal) → ty ≡ integer_type n → is_width n ≡ true → HasType m ty v →
      (x : ℕ) × (on.integer_in n v ≡ Some x)
  holds n ty v e h k =
      holds_by (n == 32) (n == 64) n v refl refl h (subst (λ a. raw_val_fits m v a ≡ true) e k.fits)

  pub holds_reference : (ty : RefType) (v : RawVal) → HasType m (t.Ref ty) v →
      (r : RawRef) × (on.reference_in v ≡ Some r) × (is_raw_ref m r ≡ true) × (raw_ref_fits m r ty ≡ true)
  holds_reference ty (w.Reference r) k = (r, refl, k.there, sym (ref_val_fits m r ty) ∙ k.fits)
  holds_reference ty (w.I32 z) k = no k.fits
  holds_reference ty (w.I64 z) k = no k.fits
  holds_reference ty (w.F32 z) k = no k.fits
  holds_reference ty (w.F64 z) k = no k.fits
  holds_reference ty (w.V128 z) k = no k.fits

-- ---- the combinators

-- the topmost n of operands whose types are known
pub front_of : {O : Type 0} (P : O → Type 0) (m : Machine) (sticks : O) (a b : List ValType) (n : ℕ) (ops : List RawVal)
    (go : List RawVal → List RawVal → O) → HaveTypes m (a ++ b) ops → n ≡ length a →
    ((front rest : List RawVal) → HaveTypes m a front → HaveTypes m b rest → P (go front rest)) →
    P (on.on_front sticks n ops go)
front_of P m sticks a b n ops go h e k =
    let enough : leb (length a) (length ops) ≡ true =
    le-leb (length a) (length ops) (omega (arith, have_length m (a ++ b) ops h, length-append a b)) in
    subst (λ j. P (on.on_front sticks j ops go)) (sym e)
    (subst (λ c. P (if c then go (take (length a) ops) (drop (length a) ops) else sticks)) (sym enough)
    (k (take (length a) ops) (drop (length a) ops) (have_front m a b ops h) (have_rest m a b ops h)))

module _ {O : Type 0} (Q : Typed → O → Type 0) (bad : (o : O) → Q IllTyped o) where
  -- of the typing alone
  pub sound_there : {A : Type 0} (a : Option A) (tgo : A → Typed) (o : O) → ((x : A) → a ≡ Some x → Q (tgo x) o) →
      Q (there a tgo) o
  sound_there None tgo o k = bad o
  sound_there (Some x) tgo o k = k x refl

  pub sound_given : (b : Bool) (ty : Typed) (o : O) → (b ≡ true → Q ty o) → Q (given b ty) o
  sound_given true ty o k = k refl
  sound_given false ty o k = bad o

  -- of execution alone
  pub sound_found : {A : Type 0} (sticks : O) (a : Option A) (x : A) (ty : Typed) (go : A → O) → a ≡ Some x →
      Q ty (go x) → Q ty (on.found sticks a go)
  sound_found sticks a x ty go e h = subst (λ b. Q ty (on.found sticks b go)) (sym e) h

  module _ (m : Machine) (sticks : O) where
    -- of both: the topmost operand, of any type, of a type
    pub sound_any : (ts : List ValType) (ops : List RawVal) (tgo : ValType → List ValType → Typed)
        (go : RawVal → List RawVal → O) → HaveTypes m ts ops →
        ((ty : ValType) (us : List ValType) (v : RawVal) (rest : List RawVal) → HasType m ty v → HaveTypes m us rest →
        Q (tgo ty us) (go v rest)) →
        Q (want_any ts tgo) (on.on_value sticks ops go)
    sound_any [] [] tgo go h k = bad (on.on_value sticks [] go)
    sound_any (ty ∷ ts) (v ∷ ops) tgo go h k = k ty ts v ops h.0 h.1
    sound_any [] (v ∷ ops) tgo go h k = absurd h
    sound_any (ty ∷ ts) [] tgo go h k = absurd h

    pub sound_want : (wanted : ValType) (ts : List ValType) (ops : List RawVal) (tgo : List ValType → Typed)
        (go : RawVal → List RawVal → O) → HaveTypes m ts ops →
        ((us : List ValType) (v : RawVal) (rest : List RawVal) → HasType m wanted v → HaveTypes m us rest →
        HaveTypes m (wanted ∷ us) ops → Q (tgo us) (go v rest)) →
        Q (want wanted ts tgo) (on.on_value sticks ops go)
    sound_want wanted [] [] tgo go h k = bad (on.on_value sticks [] go)
    sound_want wanted (ty ∷ ts) (v ∷ ops) tgo go h k =
        sound_given (val_matches ty wanted) (tgo ts) (go v ops) (λ e.
        let has : HasType m wanted v = has_along m v ty wanted h.0 e in k ts v ops has h.1 (has, h.1))
    sound_want wanted [] (v ∷ ops) tgo go h k = absurd h
    sound_want wanted (ty ∷ ts) [] tgo go h k = absurd h

    -- an integer
    sound_width : (n : ℕ) (ty : ValType) (ts : List ValType) (ops : List RawVal) (tgo : List ValType → Typed)
        (go : ℕ → List RawVal → O) → ty ≡ integer_type n → is_width n ≡ true → HaveTypes m ts ops →
        ((us : List ValType) (x : ℕ) (rest : List RawVal) → HaveTypes m us rest → Q (tgo us) (go x rest)) →
        Q (want ty ts tgo) (on.on_integer sticks n ops go)
    sound_width n ty ts ops tgo go e b h k =
        sound_want ty ts ops tgo (λ v rest. on.found sticks (on.integer_in n v) (λ x. go x rest)) h
        (λ us v rest has have more. let x : (x : ℕ) × (on.integer_in n v ≡ Some x) = holds m n ty v e b has in
        sound_found sticks (on.integer_in n v) x.0 (tgo us) (λ y. go y rest) x.1 (k us x.0 rest have))

    pub sound_i32 : (ts : List ValType) (ops : List RawVal) (tgo : List ValType → Typed) (go : ℕ → List RawVal → O) →
        HaveTypes m ts ops →
        ((us : List ValType) (x : ℕ) (rest : List RawVal) → HaveTypes m us rest → Q (tgo us) (go x rest)) →
        Q (want t.I32 ts tgo) (on.on_integer sticks 32 ops go)
    sound_i32 ts ops tgo go h k = sound_width 32 t.I32 ts ops tgo go refl refl h k

    pub sound_unary : (op : UnOp) (ts : List ValType) (ops : List RawVal) (tgo : List ValType → Typed)
        (go : ℕ → List RawVal → O) → HaveTypes m ts ops →
        ((us : List ValType) (x : ℕ) (rest : List RawVal) → HaveTypes m us rest → Q (tgo us) (go x rest)) →
        Q (want (unary_operand op) ts tgo) (on.on_integer sticks (unary_width op) ops go)
    sound_unary op ts ops tgo go h k =
        sound_width (unary_width op) (unary_operand op) ts ops tgo go refl (unary_is op) h k

    pub sound_binary : (op : BinOp) (ts : List ValType) (ops : List RawVal) (tgo : List ValType → Typed)
        (go : ℕ → List RawVal → O) → HaveTypes m ts ops →
        ((us : List ValType) (x : ℕ) (rest : List RawVal) → HaveTypes m us rest → Q (tgo us) (go x rest)) →
        Q (want (binary_operands op) ts tgo) (on.on_integer sticks (binary_width op) ops go)
    sound_binary op ts ops tgo go h k =
        sound_width (binary_width op) (binary_operands op) ts ops tgo go refl (binary_is op) h k

    pub sound_stored : (op : StoreOp) (ts : List ValType) (ops : List RawVal) (tgo : List ValType → Typed)
        (go : ℕ → List RawVal → O) → HaveTypes m ts ops →
        ((us : List ValType) (x : ℕ) (rest : List RawVal) → HaveTypes m us rest → Q (tgo us) (go x rest)) →
        Q (want (store_type op) ts tgo) (on.on_integer sticks (store_shape op).takes ops go)
    sound_stored s.I32Store ts ops tgo go h k = sound_width 32 t.I32 ts ops tgo go refl refl h k
    sound_stored s.I32Store8 ts ops tgo go h k = sound_width 32 t.I32 ts ops tgo go refl refl h k
    sound_stored s.I32Store16 ts ops tgo go h k = sound_width 32 t.I32 ts ops tgo go refl refl h k
    sound_stored _ ts ops tgo go h k = sound_width 64 t.I64 ts ops tgo go refl refl h k

    -- a reference
    pub sound_reference : (ty : RefType) (ts : List ValType) (ops : List RawVal) (tgo : List ValType → Typed)
        (go : RawRef → List RawVal → O) → HaveTypes m ts ops →
        ((us : List ValType) (r : RawRef) (rest : List RawVal) → is_raw_ref m r ≡ true → raw_ref_fits m r ty ≡ true →
        HaveTypes m us rest → Q (tgo us) (go r rest)) →
        Q (want (t.Ref ty) ts tgo) (on.on_reference sticks ops go)
    sound_reference ty ts ops tgo go h k =
        sound_want (t.Ref ty) ts ops tgo (λ v rest. on.found sticks (on.reference_in v) (λ r. go r rest)) h
        (λ us v rest has have more.
        let x : (r : RawRef) × (on.reference_in v ≡ Some r) × (is_raw_ref m r ≡ true) × (raw_ref_fits m r ty ≡ true) =
        holds_reference m ty v has in
        sound_found sticks (on.reference_in v) x.0 (tgo us) (λ r. go r rest) x.1 (k us x.0 rest x.2 x.3 have))

    any_reference : (ty : ValType) (v : RawVal) (rest : List RawVal) (next : Typed) (go : RawRef → List RawVal → O) →
        HasType m ty v → ((r : RawRef) → Q next (go r rest)) →
        Q (given (is_reference ty) next) (on.found sticks (on.reference_in v) (λ r. go r rest))
    any_reference (t.Ref ty) v rest next go h k =
        let x : (r : RawRef) × (on.reference_in v ≡ Some r) × (is_raw_ref m r ≡ true) × (raw_ref_fits m r ty ≡ true) =
        holds_reference m ty v h in
        sound_found sticks (on.reference_in v) x.0 next (λ r. go r rest) x.1 (k x.0)
    any_reference _ v rest next go h k = bad (on.found sticks (on.reference_in v) (λ r. go r rest))

    pub sound_any_reference : (ts : List ValType) (ops : List RawVal) (tgo : List ValType → Typed)
        (go : RawRef → List RawVal → O) → HaveTypes m ts ops →
        ((us : List ValType) (r : RawRef) (rest : List RawVal) → HaveTypes m us rest → Q (tgo us) (go r rest)) →
        Q (want_reference ts tgo) (on.on_reference sticks ops go)
    sound_any_reference ts ops tgo go h k =
        sound_any ts ops (λ ty us. given (is_reference ty) (tgo us))
        (λ v rest. on.found sticks (on.reference_in v) (λ r. go r rest)) h
        (λ ty us v rest has have. any_reference ty v rest (tgo us) go has (λ r. k us r rest have))

  -- operands that match types stay where they are
  pub sound_all : (m : Machine) (wanted ts : List ValType) (ops : List RawVal) (tgo : List ValType → Typed) (o : O) →
      HaveTypes m ts ops → ((us : List ValType) → HaveTypes m (wanted ++ us) ops → Q (tgo us) o) →
      Q (want_from_top wanted ts tgo) o
  sound_all m [] ts ops tgo o h k = k ts h
  sound_all m (a ∷ wanted) [] ops tgo o h k = bad o
  sound_all m (a ∷ wanted) (ty ∷ ts) [] tgo o h k = absurd h
  sound_all m (a ∷ wanted) (ty ∷ ts) (v ∷ ops) tgo o h k =
      sound_given (val_matches ty a) (want_from_top wanted ts tgo) o (λ e.
      sound_all m wanted ts ops tgo o h.1 (λ us have. k us (has_along m v ty a h.0 e, have)))

-- what is there, in execution alone
pub at_found : {O A : Type 0} (P : O → Type 0) (sticks : O) (a : Option A) (x : A) (go : A → O) → a ≡ Some x →
    P (go x) → P (on.found sticks a go)
at_found P sticks a x go e h = subst (λ b. P (on.found sticks b go)) (sym e) h
