pub mod TransparentKeys
pub mod KeyMaterials
