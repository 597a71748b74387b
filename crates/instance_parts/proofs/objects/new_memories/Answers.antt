use Rattle.std.proofs.Common.{◌≡◌, Some, ℕ, ◌+◌, ◌-◌, ◌*◌, ◌≤◌, List, ◌++◌, length, take, drop, ap, sym, ◌∙◌, subst, arith}
use Rattle.std.specs.Prelude.{slice_get}
use Rattle.wasm_types.specs.Memories.{Memory}
use Rattle.wasm_types.specs.MemoryTypes.{MemoryParts, page_size}
use Rattle.wasm_syntax.specs.declared.declarations.ModuleDecl.{ModuleDecl}
use Rattle.wasm_syntax.specs.declared.module_fault.Rule.TheVariants as rule
use Rattle.wasm_module.proofs.LeadLemmas.{uncons}
use Rattle.wasm_module.specs.Images.{memory_images}
use Rattle.wasm_objects.specs.Growth.{MemoryObjectParts}
use Rattle.wasm_objects.specs.Lazy.{imaged_memory}
use Rattle.wasm_objects.specs.Objects.{memories_of}
use Rattle.law_images.specs.Leading.{imaged, led_memories}
use Rattle.instance_parts.proofs.ListLemmas.{rest_there, rest_next, few, object_pushed, imaged_more}
use Rattle.instance_parts.proofs.objects.new_memories.Goals as goal

pub memories-init : goal.memories-init
memories-init c =
    let d : ModuleDecl = c.args.validated.now in
    let all : c.as_slice-rest.result.now ≡ d.memories =
    c.as_slice-rest.ensures ∙ ap (λ (y : ModuleDecl). y.memories) c.decl.ensures.value in
    record {
      made =
          ap (λ (xs : List MemoryObjectParts).
          memories_of xs ++ imaged imaged_memory c.as_slice-rest.result.now (memory_images d)) c.new-made.ensures.items
          ∙ ap (λ (tys : List MemoryParts). imaged imaged_memory tys (memory_images d)) all;
      place = all;
      few = few d.memories (λ ty e. (c.decl.ensures.valid rule.Size).in_memories 1000000 ty e);
    }

pub try_new_with-requires : goal.try_new_with-requires
try_new_with-requires c =
    let at = c.memories in
    let is = uncons at.rest.now c.ty-item.result (omega (arith, c.in-len1-up.len_at_least)) c.ty-item.is in
    record {
      fits =
          subst (λ (ty : MemoryParts). length c.image-image.result.now ≤ ty.minimum * page_size ty)
          (sym c.in_ok-clone.ensures.value)
          (c.in_ok-images.ensures.fits.fits at.number c.image-image.result.now c.ty-item.result c.image-image.ensures
          (rest_there c.args.validated.now.memories at.number c.ty-item.result _ (sym at.invariant.place ∙ is)));
    }

pub memories-preserved : goal.memories-preserved
memories-preserved c =
    let d : ModuleDecl = c.args.validated.now in
    let at = c.memories in
    let ty : MemoryParts = c.ty-item.result in
    let image : List ℕ = c.image-image.result.now in
    let is = uncons at.rest.now ty (omega (arith, c.in-len1-up.len_at_least)) c.ty-item.is in
    let there : slice_get (memory_images d) at.number ≡ Some image =
    ap (λ (is : List (List ℕ)). slice_get is at.number) (sym c.in_ok-images.ensures.images) ∙ c.image-image.ensures in
    let tail : List MemoryParts = take (length at.rest.now - 1) (drop 1 at.rest.now) in
    let object : c.in_ok-object.object.memory ≡ imaged_memory ty image =
    c.in_ok-object.ensures ∙ ap (λ (t : MemoryParts). imaged_memory t image) c.in_ok-clone.ensures.value in
    record {
      made =
          ap (λ (xs : List Memory). xs ++ imaged imaged_memory tail (drop (at.number + 1) (memory_images d)))
          (object_pushed (λ (h : MemoryObjectParts). h.memory) at.made.items c.push.new.self.items c.in_ok-object.object
          (imaged_memory ty image) c.in_ok-push.ensures.items object)
          ∙ imaged_more imaged_memory (memory_images d) at.rest.now tail at.number ty image (memories_of at.made.items)
          (led_memories d) is there at.invariant.made;
      place = rest_next d.memories at.number ty tail (sym at.invariant.place ∙ is);
      few = at.invariant.few;
    }
