-- A store is a later one of itself, a later one of a later one is one, and so is one in which a list goes on.
use Rattle.std.proofs.Common.{List, refl, ap, ◌∙◌, le_trans, le_refl}
use Rattle.wasm_types.specs.GlobalTypes.{GlobalParts}
use Rattle.wasm_types.specs.Memories.{Memory}
use Rattle.wasm_types.specs.Signatures.{Signature}
use Rattle.wasm_objects.specs.Globals.{Global}
use Rattle.wasm_objects.specs.Tables.{Table}
use Rattle.spec_machine.specs.Machine.{Machine, Function, InstanceParts}
use Rattle.law_store.specs.Later.{Later, IsSame, IsLaterMemory, IsLaterTable, IsLaterGlobal, IsLaterInstance, Extends}
use Rattle.law_store.proofs.Lists.{later_same, later_transitive}

pub same_is_same : {A : Type 0} (x : A) → IsSame x x
same_is_same x = refl

pub memory_own : (x : Memory) → IsLaterMemory x x
memory_own x = record { ty = refl; size = le_refl _ }

pub table_own : (x : Table) → IsLaterTable x x
table_own x = record { ty = refl; size = le_refl _ }

pub global_own : (x : Global) → IsLaterGlobal x x
global_own x = record { ty = refl; constant = λ c. refl }

pub instance_own : (x : InstanceParts) → IsLaterInstance x x
instance_own x = record {
  decl = refl;
  functions = refl;
  tables = refl;
  memories = refl;
  globals = refl;
  tags = refl;
}

same_on : {A : Type 0} (x y z : A) → IsSame x y → IsSame y z → IsSame x z
same_on x y z p q = q ∙ p

memory_on : (x y z : Memory) → IsLaterMemory x y → IsLaterMemory y z → IsLaterMemory x z
memory_on x y z p q = record { ty = q.ty ∙ p.ty; size = le_trans p.size q.size }

table_on : (x y z : Table) → IsLaterTable x y → IsLaterTable y z → IsLaterTable x z
table_on x y z p q = record { ty = q.ty ∙ p.ty; size = le_trans p.size q.size }

global_on : (x y z : Global) → IsLaterGlobal x y → IsLaterGlobal y z → IsLaterGlobal x z
global_on x y z p q = record {
  ty = q.ty ∙ p.ty;
  constant = λ c. q.constant (ap (λ (ty : GlobalParts). ty.mutability) p.ty ∙ c) ∙ p.constant c;
}

instance_on : (x y z : InstanceParts) → IsLaterInstance x y → IsLaterInstance y z → IsLaterInstance x z
instance_on x y z p q = record {
  decl = q.decl ∙ p.decl;
  functions = q.functions ∙ p.functions;
  tables = q.tables ∙ p.tables;
  memories = q.memories ∙ p.memories;
  globals = q.globals ∙ p.globals;
  tags = q.tags ∙ p.tags;
}

pub extends_own : (m : Machine) → Extends m m
extends_own m = record {
  id = refl;
  engine = refl;
  memories = later_same IsLaterMemory m.memories memory_own;
  tables = later_same IsLaterTable m.tables table_own;
  globals = later_same IsLaterGlobal m.globals global_own;
  tags = later_same IsSame m.tags same_is_same;
  functions = later_same IsSame m.functions same_is_same;
  instances = later_same IsLaterInstance m.instances instance_own;
}

pub extends_on : (a b c : Machine) → Extends a b → Extends b c → Extends a c
extends_on a b c p q = record {
  id = q.id ∙ p.id;
  engine = q.engine ∙ p.engine;
  memories = later_transitive IsLaterMemory a.memories b.memories c.memories memory_on p.memories q.memories;
  tables = later_transitive IsLaterTable a.tables b.tables c.tables table_on p.tables q.tables;
  globals = later_transitive IsLaterGlobal a.globals b.globals c.globals global_on p.globals q.globals;
  tags = later_transitive IsSame a.tags b.tags c.tags same_on p.tags q.tags;
  functions = later_transitive IsSame a.functions b.functions c.functions same_on p.functions q.functions;
  instances = later_transitive IsLaterInstance a.instances b.instances c.instances instance_on p.instances q.instances;
}

module _ (m : Machine) where
  pub extends_memories : (xs : List Memory) → Later m.memories xs IsLaterMemory → Extends m (record m { memories = xs })
  extends_memories xs f = let e : Extends m m = extends_own m in
      record {
        id = refl;
        engine = refl;
        memories = f;
        tables = e.tables;
        globals = e.globals;
        tags = e.tags;
        functions = e.functions;
        instances = e.instances;
      }

  pub extends_tables : (xs : List Table) → Later m.tables xs IsLaterTable → Extends m (record m { tables = xs })
  extends_tables xs f = let e : Extends m m = extends_own m in
      record {
        id = refl;
        engine = refl;
        memories = e.memories;
        tables = f;
        globals = e.globals;
        tags = e.tags;
        functions = e.functions;
        instances = e.instances;
      }

  pub extends_globals : (xs : List Global) → Later m.globals xs IsLaterGlobal → Extends m (record m { globals = xs })
  extends_globals xs f = let e : Extends m m = extends_own m in
      record {
        id = refl;
        engine = refl;
        memories = e.memories;
        tables = e.tables;
        globals = f;
        tags = e.tags;
        functions = e.functions;
        instances = e.instances;
      }

  pub extends_tags : (xs : List Signature) → Later m.tags xs IsSame → Extends m (record m { tags = xs })
  extends_tags xs f = let e : Extends m m = extends_own m in
      record {
        id = refl;
        engine = refl;
        memories = e.memories;
        tables = e.tables;
        globals = e.globals;
        tags = f;
        functions = e.functions;
        instances = e.instances;
      }

  pub extends_functions : (xs : List Function) → Later m.functions xs IsSame → Extends m (record m { functions = xs })
  extends_functions xs f = let e : Extends m m = extends_own m in
      record {
        id = refl;
        engine = refl;
        memories = e.memories;
        tables = e.tables;
        globals = e.globals;
        tags = e.tags;
        functions = f;
        instances = e.instances;
      }
