pub mod TankLemmas
