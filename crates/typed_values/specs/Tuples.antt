-- Tuples of static types, read from lists: of one, two and up to six members. This project's own.
use Rattle.typed_values.specs.Lists.{Way, Ways, from_one, from_more, read_as}

-- the tuple of one member
abbrev pub single : {A : Type 0} → A → record { 0 : A }
single a = record { 0 = a }

abbrev pub ways1 : {A : Type 0} (f0 : Way A) → Ways (record { 0 : A })
ways1 f0 = read_as single (from_one f0)

abbrev pub ways2 : {A B : Type 0} (f0 : Way A) (f1 : Way B) → Ways (A × B)
ways2 f0 f1 = from_more f0 (from_one f1)

abbrev pub flat3 : {A B C : Type 0} → A × (B × C) → A × B × C
flat3 p = (p.0, p.1.0, p.1.1)

abbrev pub ways3 : {A B C : Type 0} (f0 : Way A) (f1 : Way B) (f2 : Way C) → Ways (A × B × C)
ways3 f0 f1 f2 = read_as flat3 (from_more f0 (from_more f1 (from_one f2)))

abbrev pub flat4 : {A B C D : Type 0} → A × (B × (C × D)) → A × B × C × D
flat4 p = (p.0, p.1.0, p.1.1.0, p.1.1.1)

abbrev pub ways4 : {A B C D : Type 0} (f0 : Way A) (f1 : Way B) (f2 : Way C) (f3 : Way D) → Ways (A × B × C × D)
ways4 f0 f1 f2 f3 = read_as flat4 (from_more f0 (from_more f1 (from_more f2 (from_one f3))))

abbrev pub flat5 : {A B C D E : Type 0} → A × (B × (C × (D × E))) → A × B × C × D × E
flat5 p = (p.0, p.1.0, p.1.1.0, p.1.1.1.0, p.1.1.1.1)

abbrev pub ways5 : {A B C D E : Type 0} (f0 : Way A) (f1 : Way B) (f2 : Way C) (f3 : Way D) (f4 : Way E) → Ways (A × B × C × D × E)
ways5 f0 f1 f2 f3 f4 = read_as flat5 (from_more f0 (from_more f1 (from_more f2 (from_more f3 (from_one f4)))))

abbrev pub flat6 : {A B C D E F : Type 0} → A × (B × (C × (D × (E × F)))) → A × B × C × D × E × F
flat6 p = (p.0, p.1.0, p.1.1.0, p.1.1.1.0, p.1.1.1.1.0, p.1.1.1.1.1)

abbrev pub ways6 : {A B C D E F : Type 0} (f0 : Way A) (f1 : Way B) (f2 : Way C) (f3 : Way D) (f4 : Way E) (f5 : Way F) → Ways (A × B × C × D × E × F)
ways6 f0 f1 f2 f3 f4 f5 = read_as flat6 (from_more f0 (from_more f1 (from_more f2 (from_more f3 (from_more f4 (from_one f5))))))
