mod AddedPlanes
