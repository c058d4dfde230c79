pub mod Tables
pub mod Values
pub mod Same
pub mod Message
pub mod Fits
pub mod Requests
pub mod Payload
pub use Rattle.kmip_request_objects.specs.Constructors
pub use Rattle.kmip_request_objects.specs.declared.attribute.Attribute as TheAttribute
pub use Rattle.kmip_request_objects.specs.declared.managed_object.ManagedObject as TheManagedObject
