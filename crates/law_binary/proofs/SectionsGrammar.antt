-- Sections in the grammar: one more in front of others, and where the section of an id stands.
use Rattle.std.proofs.Common.{◌≡◌, ℕ, suc, ◌+◌, ◌<◌, List, [], ◌∷◌, ◌++◌, length, true, inl, inr, arith, refl, sym, ◌∙◌, ap, subst, append_assoc, nat_eq}
use Rattle.std.proofs.lemmas.Bool.{eqb-true}
use Rattle.std.proofs.lemmas.List.{length-append}
use Rattle.std.specs.Prelude.{⊤}
use Rattle.wasm_leb.proofs.NumberLemmas.{chosen}
use Rattle.wasm_types.specs.declared.plain.EngineId.{EngineId}
use Rattle.binary_types.specs.declared.faults.BinaryFault.{BinaryFault}
use Rattle.law_binary.specs.Formats.{Format, Begins, InOrder}
use Rattle.law_binary.specs.Formats as formats
use Rattle.law_binary.specs.Modules.{Held, Section, custom_section, customs, present, present_or_not, sections}
use Rattle.law_binary.proofs.SectionSteps.{IsSection}
use Rattle.law_binary.proofs.SectionOrder.{Suffix, has_id, suffix}

-- ---- the grammar: nothing more, a section that is not there, and a custom section in front

pub nothing_more : (ks : List Section) (g : Held) → (sections ks g).Spells [] g
nothing_more [] g = record { value = tt; front = []; rest = []; split = refl; spelled = ([], refl); holds = (refl, refl) }
nothing_more (k ∷ ks) g = record {
  value = tt;
  front = [];
  rest = [];
  split = refl;
  spelled = ([], refl);
  holds = record { value = g; front = []; rest = []; split = refl; spelled = inl (refl, refl); holds = nothing_more ks g };
}

pub skip : (k : Section) (ks : List Section) (g : Held) (bytes : List ℕ) (h : Held) → (sections ks g).Spells bytes h → (sections (k ∷ ks) g).Spells bytes h
skip k ks g bytes h s = record {
  value = tt;
  front = [];
  rest = bytes;
  split = refl;
  spelled = ([], refl);
  holds = record { value = g; front = []; rest = bytes; split = refl; spelled = inl (refl, refl); holds = s };
}

pub fails_at : (ks : List Section) (g : Held) (at end : ℕ) (bytes : List ℕ) (f : BinaryFault) → at ≡ end → (sections ks g).Fails at bytes f → (sections ks g).Fails end bytes f
fails_at ks g at end bytes f e h = subst (λ (m : ℕ). (sections ks g).Fails m bytes f) e h

pub skip_fails : (k : Section) (ks : List Section) (g : Held) (at : ℕ) (bytes : List ℕ) (f : BinaryFault) → (sections ks g).Fails at bytes f → (sections (k ∷ ks) g).Fails at bytes f
skip_fails k ks g at bytes f h = inr (record {
  value = tt;
  front = [];
  rest = bytes;
  split = refl;
  spelled = ([], refl);
  holds = inr (record { value = g; front = []; rest = bytes; split = refl; spelled = inl (refl, refl); holds = fails_at ks g at ((at + 0) + 0) bytes f (omega arith) h });
})

more_customs : {B : Type 0} (G : ⊤ → Format B) (item rest : List ℕ) (x : B) → custom_section.Spells item tt → (formats.◌>>=◌ customs G).Spells rest x → (formats.◌>>=◌ customs G).Spells (item ++ rest) x
more_customs G item rest x c s = record {
  value = s.value;
  front = item ++ s.front;
  rest = s.rest;
  split = ap (λ (zs : List ℕ). item ++ zs) s.split ∙ sym (append_assoc item s.front s.rest);
  spelled = (tt ∷ s.spelled.0, (item, s.front, refl {a = item ++ s.front}, c, s.spelled.1));
  holds = s.holds;
}

pub custom_front : (ks : List Section) (g : Held) (item rest : List ℕ) (h : Held) → custom_section.Spells item tt → (sections ks g).Spells rest h → (sections ks g).Spells (item ++ rest) h
custom_front [] g item rest h c s = more_customs (λ _. formats.gives g) item rest h c s
custom_front (k ∷ ks) g item rest h c s = more_customs (λ _. formats.◌>>=◌ (present_or_not k g) (sections ks)) item rest h c s

more_fails : {B : Type 0} (G : ⊤ → Format B) (at : ℕ) (item rest : List ℕ) (f : BinaryFault) → custom_section.Spells item tt → (formats.◌>>=◌ customs G).Fails (at + length item) rest f → (formats.◌>>=◌ customs G).Fails at (item ++ rest) f
more_fails G at item rest f c (inl h) = absurd h
more_fails G at item rest f c (inr s) = inr (record {
  value = s.value;
  front = item ++ s.front;
  rest = s.rest;
  split = ap (λ (zs : List ℕ). item ++ zs) s.split ∙ sym (append_assoc item s.front s.rest);
  spelled = (tt ∷ s.spelled.0, (item, s.front, refl {a = item ++ s.front}, c, s.spelled.1));
  holds = subst (λ (m : ℕ). (G s.value).Fails m s.rest f) (omega (arith, length-append item s.front)) s.holds;
})

pub front_fails : (ks : List Section) (g : Held) (at : ℕ) (item rest : List ℕ) (f : BinaryFault) → custom_section.Spells item tt → (sections ks g).Fails (at + length item) rest f → (sections ks g).Fails at (item ++ rest) f
front_fails [] g at item rest f c s = more_fails (λ _. formats.gives g) at item rest f c s
front_fails (k ∷ ks) g at item rest f c s = more_fails (λ _. formats.◌>>=◌ (present_or_not k g) (sections ks)) at item rest f c s

-- a section that is there
pub there : (k : Section) (ks : List Section) (g h t : Held) (item rest : List ℕ) → (present k g).Spells item h → (sections ks h).Spells rest t → (sections (k ∷ ks) g).Spells (item ++ rest) t
there k ks g h t item rest s r = record {
  value = tt;
  front = [];
  rest = item ++ rest;
  split = refl;
  spelled = ([], refl);
  holds = record { value = h; front = item; rest = rest; split = refl; spelled = inr s; holds = r };
}

pub there_fails : (k : Section) (ks : List Section) (g h : Held) (at : ℕ) (item rest : List ℕ) (f : BinaryFault) → (present k g).Spells item h → (sections ks h).Fails (at + length item) rest f → (sections (k ∷ ks) g).Fails at (item ++ rest) f
there_fails k ks g h at item rest f s r = inr (record {
  value = tt;
  front = [];
  rest = item ++ rest;
  split = refl;
  spelled = ([], refl);
  holds = inr (record { value = h; front = item; rest = rest; split = refl; spelled = inr s; holds = fails_at ks h (at + length item) ((at + 0) + length item) rest f (omega arith) r });
})

-- a section behind whose id there is a fault
pub here_fails : (k : Section) (ks : List Section) (g : Held) (at : ℕ) (bs : List ℕ) (f : BinaryFault) → (formats.◌>>=◌ (formats.sized (k.content g)) (λ x. formats.gives (k.put x g))).Fails (at + 1) bs f → (sections (k ∷ ks) g).Fails at (k.id ∷ bs) f
here_fails k ks g at bs f h = inr (record {
  value = tt;
  front = [];
  rest = k.id ∷ bs;
  split = refl;
  spelled = ([], refl);
  holds = inl (inr (record {
    value = tt;
    front = k.id ∷ [];
    rest = bs;
    split = refl;
    spelled = refl;
    holds = subst (λ (m : ℕ). (formats.◌>>=◌ (formats.sized (k.content g)) (λ x. formats.gives (k.put x g))).Fails m bs f) (omega arith) h;
  }));
})

-- ---- where a section of an id stands in the order

pub record Located (engine : EngineId) (ks : List Section) (r b : ℕ) : Type 1 where
  pub section : Section
  pub behind : List Section
  pub rank : ℕ
  pub is_section : IsSection engine section rank
  pub id_is : section.id ≡ b
  pub later : r < rank
  pub suffix_is : Suffix engine behind rank
  pub spells : (g : Held) (bytes : List ℕ) (h : Held) → (sections (section ∷ behind) g).Spells bytes h → (sections ks g).Spells bytes h
  pub fails : (g : Held) (at : ℕ) (bytes : List ℕ) (f : BinaryFault) → (sections (section ∷ behind) g).Fails at bytes f → (sections ks g).Fails at bytes f

pub located : (engine : EngineId) (ks : List Section) (r : ℕ) (s : Suffix engine ks r) (b : ℕ) → has_id ks b ≡ true → Located engine ks r b
located engine [] r s b h = absurd (cc h)
located engine (k ∷ ks) r s b h =
    elim (chosen (nat_eq k.id b) true (has_id ks b) true h) [
      | inl e ↦ record {
        section = k;
        behind = ks;
        rank = suc r;
        is_section = s.all.0;
        id_is = eqb-true k.id b e.0;
        later = omega arith;
        suffix_is = suffix engine k ks r s;
        spells = λ g bytes t z. z;
        fails = λ g at bytes f z. z;
      }
      | inr e ↦
          let l = located engine ks (suc r) (suffix engine k ks r s) b e.1 in
          record {
            section = l.section;
            behind = l.behind;
            rank = l.rank;
            is_section = l.is_section;
            id_is = l.id_is;
            later = omega (arith, l.later);
            suffix_is = l.suffix_is;
            spells = λ g bytes t z. skip k ks g bytes t (l.spells g bytes t z);
            fails = λ g at bytes f z. skip_fails k ks g at bytes f (l.fails g at bytes f z);
          }
    ]
