-- Which operations may end in want of memory: as those of a body do, in a call. This project's own.
pub use Rattle.code_hosts.specs.Room.{takes_memory, refusal_of}
