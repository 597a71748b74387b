mod ContextLemmas
pub mod RoundLemmas
mod PartingLemmas
mod SayingLemmas
mod SettleLemmas
mod BehindLemmas
mod BodyLemmas
mod CodeLemmas
pub mod CourseLemmas
mod EnterLemmas
mod LeaveLemmas
mod FitLemmas
mod GoingLemmas
pub mod HostedLemmas
pub mod IdleCallLemmas
mod InvokeLemmas
mod OperationLemmas
mod OpenLemmas
mod RunLemmas
mod StepLemmas
mod TellLemmas
