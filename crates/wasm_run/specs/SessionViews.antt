-- What contracts see of a session, whatever its hook and its deadline behaviour call. This project's own.
use Rattle.wasm_run.specs.Sessions.{SessionParts, session_parts}
use Rattle.wasm_run.specs.declared.session.Session.{Session}

abbrev pub parts_of : {X Y : Type 0} {F : X → Type 0} {G : Y → Type 0} {hook : _} {behaviour : _} →
    Session X Y F G hook behaviour → SessionParts
parts_of s = session_parts s.store s.host s.replies s.notes_after.items s.turns
