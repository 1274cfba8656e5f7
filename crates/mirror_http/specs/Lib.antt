pub use Rattle.mirror_client.specs.Site
pub use Rattle.mirror_client.specs.Request
pub use Rattle.mirror_client.specs.Reply
pub use Rattle.mirror_client.specs.Framing
pub use Rattle.mirror_client.specs.Source
pub use Rattle.mirror_client.specs.Waits
pub use Rattle.mirror_client.specs.Tempo
pub use Rattle.mirror_client.specs.Laws as ClientLaws
pub mod Resource
pub mod Response
pub mod Laws
pub mod Looks
pub mod Answered
